-- The zero rule holds after every list of calls from a good set-up.
-- Assumes nothing.
use Rattle.std.specs.Prelude.{◌≡◌, refl, ◌⊎◌, Bool, true, false, cond, ◌&&◌, List, [], ◌∷◌, ◌++◌, ℕ, zero, suc, ◌+◌, ◌-◌, ◌*◌, ◌/◌, ◌%◌, ◌≤◌, ◌<◌, eqb, leb, ltb, length, get_or, drop, replicate}
use Rattle.std.proofs.Common.{sym, ap, ◌∙◌, subst, inl, inr, arith, eq-eqb, ltb-true, ltb-false, leb-false, length-take, get_or-take, get_or-drop}
use Rattle.std.proofs.lemmas.List.{length-replicate, get_or-replicate}
use Rattle.std.proofs.Math.ListN.{get_or-append, get_or-eq_default}
use Rattle.lists.specs.Seek.{All}
use Rattle.lists.specs.Test.{both_ways}
use Rattle.model.specs.Bytes.{part, padded, le64}
use Rattle.model.specs.Answer.{ok, Check}
use Rattle.model.specs.Algorithm.{cipher, hash, mac}
use Rattle.model.specs.declared.Session.{Session}
use Rattle.model.specs.Session.{area_size, store_size, World, Place, free, slots_of, place_at, area, key_start, key_area, area_of, key_len}
use Rattle.model.specs.View.{Setting, View, setting, live}
use Rattle.model.specs.Act.{Act, refuse, create, destroy, judge}
use Rattle.model.specs.Setup.{set_up, set_up_answer, fresh_table, config_of}
use Rattle.model.specs.Control.{service, is_create, asked, new_entry}
use Rattle.model.specs.Device.{Request, Attach, Control, Admit, Part, KeyAnswer, Key, Finish, checks_of, asks}
use Rattle.model.specs.Calls.{Call, run}
use Rattle.model.specs.Zero.{key_byte, live_byte, ZeroRule}
use Rattle.history.specs.Cells as Cells
use Rattle.history.specs.Cells.{Cell, State, no_cell}
use Rattle.history.specs.Apply.{cell_of}
use Rattle.history.specs.Good.{Good, matches_named}
use Rattle.history.specs.Invariant.{Inv}
use Rattle.history.specs.Rules as Rules
use Rattle.history.specs.Rules.{inv_run, setting_run}
use Rattle.history.specs.Zero.{Fills}
use Rattle.history.proofs.Zero.{all_run}
use Rattle.follows.specs.Areas.{cells, length_cells, get_or_cells}
use Rattle.laws.specs.Areas.{length_padded}
use Rattle.follows.specs.Follows.{cell_from, state_of}
use Rattle.demands.specs.Instance.{decide, rules}
use Rattle.demands.specs.Start.{started}
use Rattle.demands.specs.Steps.{same_run}
use Rattle.demands.specs.ZeroRule.{Clean}

-- ---- areas that are zero but for a key

get_or_padded : (n : ℕ) (k : List ℕ) (i : ℕ) → length k ≤ i → get_or (padded n k) i 0 ≡ 0
unfolding padded
get_or_padded zero k i h = refl
get_or_padded (suc n) [] zero h = refl
get_or_padded (suc n) [] (suc i) h = get_or_padded n [] i (omega arith)
get_or_padded (suc n) (x ∷ k) zero h = absurd (omega arith)
get_or_padded (suc n) (x ∷ k) (suc i) h = get_or_padded n k i (omega arith)

get_d_past : (p q : List ℕ) (n : ℕ) → length p ≤ n → get_or (p ++ q) n 0 ≡ get_or q (n - length p) 0
get_d_past [] q n h = ap (λ (m : ℕ). get_or q m 0) (omega arith)
get_d_past (x ∷ p) q zero h = absurd (omega arith)
get_d_past (x ∷ p) q (suc n) h = get_d_past p q n (omega arith) ∙ ap (λ (m : ℕ). get_or q m 0) (omega arith)

-- two halves of an area, each zero behind its key
halves : (front back : List ℕ) (j : ℕ) → ((j < 64) ⊎ (64 + length back ≤ j)) → ((64 ≤ j) ⊎ (length front ≤ j)) → get_or (key_area front back) j 0 ≡ 0
unfolding key_area
halves front back j (inl a) (inl b) = absurd (omega arith)
halves front back j (inl a) (inr b) = get_or-append (padded 64 front) (padded 64 back) 0 j (omega (arith, length_padded 64 front)) ∙ get_or_padded 64 front j b
halves front back j (inr a) b =
    get_d_past (padded 64 front) (padded 64 back) j (omega (arith, length_padded 64 front))
    ∙ get_or_padded 64 back (j - length (padded 64 front)) (omega (arith, length_padded 64 front))

below : (a b : ℕ) → (a < b) ⊎ (b ≤ a)
below a b = go (ltb a b) refl
  where
    go : (t : Bool) → ltb a b ≡ t → (a < b) ⊎ (b ≤ a)
    go true e = inl (ltb-true a b e)
    go false e = inr (ltb-false a b e)

-- outside a key that starts at s and has n bytes
outside : (s n j : ℕ) → leb s j && ltb j (s + n) ≡ false → (j < s) ⊎ (s + n ≤ j)
outside s n j e = go (leb s j) refl e
  where
    go : (t : Bool) → leb s j ≡ t → t && ltb j (s + n) ≡ false → (j < s) ⊎ (s + n ≤ j)
    go true q e = inr (ltb-false j (s + n) e)
    go false q e = inl (leb-false s j q)

area_of_zero : (s n : ℕ) (key : List ℕ) (j : ℕ) → length key ≤ n → leb (key_start s) j && ltb j (key_start s + n) ≡ false → get_or (area_of s key) j 0 ≡ 0
unfolding key_start area_of
area_of_zero s n key j h = go (eqb s mac)
  where
    widen : (j < 64) ⊎ (64 + n ≤ j) → (j < 64) ⊎ (64 + length key ≤ j)
    widen (inl a) = inl a
    widen (inr a) = inr (omega arith)

    front : (j < 0) ⊎ (0 + n ≤ j) → (64 ≤ j) ⊎ (length key ≤ j)
    front (inl a) = absurd (omega arith)
    front (inr a) = inr (omega arith)

    other : (j < 64) ⊎ (64 ≤ j) → (j < 64) ⊎ (64 + 0 ≤ j)
    other (inl a) = inl a
    other (inr a) = inr (omega arith)

    go : (b : Bool) → leb (cond b 64 0) j && ltb j (cond b 64 0 + n) ≡ false → get_or (cond b (key_area [] key) (key_area key [])) j 0 ≡ 0
    go true e = halves [] key j (widen (outside 64 n j e)) (inr (omega arith))
    go false e = halves key [] j (other (below j 64)) (front (outside 0 n j e))

-- ---- the fact of each slot with its area

clean_none : Clean no_cell
clean_none j h e = get_or-replicate area_size j 0 0 h

-- a create's key is as long as its session says
asked_key : (r : List ℕ) → key_len (asked r) ≡ (asked r).keylen
unfolding asked key_len
asked_key r =
    both_ways Keyed (eqb (service r) cipher) _ _ refl
    (both_ways Keyed (eqb (service r) hash) _ _ refl
    (both_ways Keyed (eqb (service r) mac) _ _ refl refl))
  where
    Keyed : Session → Type 0
    Keyed x = key_len x ≡ x.keylen

clean_new : (r : List ℕ) (g n : ℕ) → Clean (cell_of g n (new_entry r))
unfolding new_entry key_byte part
clean_new r g n j h e = area_of_zero (asked r).service (key_len (asked r)) _ j (rw (asked_key r) (simp length-take (omega arith))) e

fills_judge : (cs : List Check) (a : Act) → Fills Clean a → Fills Clean (judge cs a)
fills_judge [] a h = h
fills_judge (c ∷ cs) a h = go c.0 (fills_judge cs a h)
  where
    go : (b : Bool) → Fills Clean (judge cs a) → Fills Clean (cond b (judge cs a) (refuse c.1))
    go true ih = ih
    go false ih = tt

fills_asks : (q : Request) → Fills Clean (asks q)
fills_asks (Attach word) = tt
fills_asks (Control r w) = both_ways (Fills Clean) (is_create r) (create (new_entry r)) (destroy (le64 r 16)) (clean_new r) tt
fills_asks (Admit r w) = tt
fills_asks (Part x r w) = tt
fills_asks (KeyAnswer n) = tt
fills_asks (Key n) = tt
fills_asks (Finish op verdict w) = tt

fills : (k : Setting) (g : ℕ) (v : View) (q : Request) → Fills Clean (decide k g v q)
fills k g v q = fills_judge (checks_of k g v false q) (asks q) (fills_asks q)

-- ---- a good set-up

-- cells of an all-zero store
clean_cells : (l : List Place) (b : List ℕ) → ((i : ℕ) → get_or b i 0 ≡ 0) → All Clean (cells cell_from l b)
unfolding cells
clean_cells [] b z = tt
clean_cells (c ∷ l) b z = (λ j h e. get_or-take 128 b j 0 h ∙ z j, clean_cells l (drop 128 b) (λ i. get_or-drop 128 b i 0 ∙ z (128 + i)))

zero_get_or : (n i : ℕ) → ◌≡◌ {A = ℕ} (get_or (replicate n 0) i 0) 0
zero_get_or n i = go (below i n)
  where
    go : (i < n) ⊎ (n ≤ i) → ◌≡◌ {A = ℕ} (get_or (replicate n 0) i 0) 0
    go (inl h) = get_or-replicate n i 0 0 h
    go (inr h) = get_or-eq_default (replicate n 0) 0 {n = i} (omega (arith, length-replicate {A = ℕ} n 0))

-- ---- every list of calls

All-at : {A : Type 0} (P : A → Type 0) (l : List A) (i : ℕ) (d : A) → All P l → i < length l → P (get_or l i d)
All-at P [] i d a h = absurd (omega arith)
All-at P (x ∷ l) zero d a h = a.0
All-at P (x ∷ l) (suc i) d a h = All-at P l i d a.1 (omega arith)

-- a table and store whose cells are good and clean
zero_of : (w : World) → Inv (state_of w) → length w.store ≡ store_size → All Clean (state_of w).cells → ZeroRule w
zero_of w v n a i h e =
    let s = i / area_size in
    let j = i % area_size in
    let l = slots_of w.table in
    let size : length l ≡ 128 = sym (length_cells cell_from l w.store) ∙ v.size in
    let c = place_at w.table s in
    let cell = cell_from c (area s w.store) in
    let here : get_or (cells cell_from l w.store) s no_cell ≡ cell = get_or_cells cell_from l w.store s free no_cell (omega arith) in
    let s-cell : s < length (cells cell_from l w.store) = omega (arith, length_cells cell_from l w.store) in
    let clean : Clean cell = subst Clean here (All-at Clean (state_of w).cells s no_cell a s-cell) in
    let good : Whole cell = subst Whole here (All-at Whole (state_of w).cells s no_cell v.good s-cell) in
    let z = clean j (omega arith) (free_key c (area s w.store) good e) in
    let m : 128 * s + j ≡ i = omega arith in
    ap (λ (k : ℕ). get_or w.store k 0) (sym m) ∙ sym (get_or-drop (128 * s) w.store j 0) ∙ sym (get_or-take 128 (drop (128 * s) w.store) j 0 (omega arith)) ∙ z
  where
    -- a live session if held
    Whole : Cell → Type 0
    Whole = Good (setting w) w.table.guests

    -- a held slot is live, so its key is all that a live session's key has there
    free_key : (c : Place) (b : List ℕ) → Whole (cell_from c b)
        → live_byte w.table c (i % area_size) ≡ false → c.held && key_byte c.session (i % area_size) ≡ false
    free_key c b good e = go c.held refl
      where
        go : (t : Bool) → c.held ≡ t → t && key_byte c.session (i % area_size) ≡ false
        go false q = refl
        go true q =
            let named : Cells.named c.owner c.number (cell_from c b) ≡ true = rw (q, eq-eqb c.owner c.owner refl, eq-eqb c.number c.number refl) in
            let alive : live w.table c.owner c.number c ≡ true = matches_named (setting w) w.table.guests c.owner c.number (cell_from c b) good ∙ named in
            sym (ap (λ (t : Bool). t && key_byte c.session (i % area_size)) alive) ∙ e

-- what a good set-up leaves
abbrev good_world : List ℕ → List ℕ → List ℕ → World
good_world config reserves caps = record { table = fresh_table (config_of config) reserves caps; store = replicate store_size 0 }

good_world_lem : (config reserves caps store : List ℕ) → set_up_answer config reserves caps store ≡ ok → set_up config reserves caps store ≡ good_world config reserves caps
unfolding set_up
good_world_lem config reserves caps store e = rw (eq-eqb (set_up_answer config reserves caps store) ok e)

clean_start : (config reserves caps : List ℕ) → All Clean (state_of (good_world config reserves caps)).cells
clean_start config reserves caps = clean_cells (slots_of (fresh_table (config_of config) reserves caps)) (replicate store_size 0) (zero_get_or store_size)

zero_run : (w : World) (cs : List (Call Request)) → Inv (state_of w) → length w.store ≡ store_size → All Clean (state_of w).cells → ZeroRule (run w cs)
zero_run w cs v n a =
    zero_of (run w cs)
    (subst Inv (sym state) (inv_run rules (state_of w) cs v))
    (ap (λ (s : State). s.setting.store) state ∙ ap (λ (k : Setting). k.store) (setting_run rules (state_of w) cs) ∙ n)
    (subst (λ (s : State). All Clean s.cells) (sym state) (all_run rules Clean clean_none fills (state_of w) cs a))
  where
    state : state_of (run w cs) ≡ Rules.run rules (state_of w) cs
    state = same_run w cs v

pub zero_rule : (config reserves caps store : List ℕ) (cs : List (Call Request)) → set_up_answer config reserves caps store ≡ ok
    → ZeroRule (run (set_up config reserves caps store) cs)
zero_rule config reserves caps store cs good =
    let e = good_world_lem config reserves caps store good in
    let v = subst (λ (w : World). Inv (state_of w)) e (started config reserves caps store) in
    subst (λ (w : World). ZeroRule (run w cs)) (sym e)
    (zero_run (good_world config reserves caps) cs v (length-replicate {A = ℕ} store_size 0) (clean_start config reserves caps))
