-- Demand 1, of every call on every table and key store, and of a refused set-up.
-- Assumes nothing.
use Rattle.std.specs.Prelude.{◌≡◌, refl, ◌⊎◌, Bool, true, false, cond, ◌&&◌, ◌||◌, List, [], ◌∷◌, ◌++◌, ℕ, zero, suc, ◌-◌, ◌≤◌, ◌<◌, eqb, leb, length}
use Rattle.std.proofs.Common.{sym, ◌∙◌, inl, inr, arith, length-set, get_or-set_same, get_or-set_other, eqb-true, ne_eqb, leb-true, le-ltb, lt-ltb}
use Rattle.std.proofs.lemmas.Bool.{eqb-false}
use Rattle.lists.specs.Test.{false_true, and_true}
use Rattle.model.specs.Bytes.{le}
use Rattle.model.specs.Answer.{ok, err, badmsg, bad_guest, no_outcome, bad_store, bad_shares, bad_config, Check, first_fail, granted, control_outcome, data_outcome, control_bytes, data_bytes}
use Rattle.model.specs.Lens.{or_in}
use Rattle.model.specs.Session.{World}
use Rattle.model.specs.View.{Setting, View, setting, view, full, sized, present}
use Rattle.model.specs.Act.{refuse, pass, judge, table_after, store_after, after}
use Rattle.model.specs.Control.{place_checks, control_checks}
use Rattle.model.specs.Data.{status, finish_checks}
use Rattle.model.specs.Setup.{set_up_checks, set_up_answer, set_up}
use Rattle.model.specs.Device.{Request, Attach, Control, Admit, Part, KeyAnswer, Key, Finish, checks_of, checks, outcome, reply, act, next, answered}
use Rattle.laws.specs.Kind.{by_kind}
use Rattle.laws.specs.Judge.{Passed, passed_first}
use Rattle.laws.specs.Effect.{refused_next}
use Rattle.demands.specs.Statement.{numbers_of, buffer, LastByte, Refusal, Demand1, SetUpRefused}

-- ---- the numbers

-- every check of a list has its number among these
abbrev numbers_in : List ℕ → List Check → Bool
numbers_in l [] = true
numbers_in l (c ∷ cs) = or_in false c.1 l && numbers_in l cs

first_in : (l : List ℕ) (cs : List Check) → or_in false ok l ≡ true → numbers_in l cs ≡ true → or_in false (first_fail cs) l ≡ true
unfolding first_fail
first_in l [] z h = z
first_in l (c ∷ cs) z h =
    let a = and_true (or_in false c.1 l) (numbers_in l cs) h in
    go c.0 a.0 (first_in l cs z a.1)
  where
    go : (b : Bool) → or_in false c.1 l ≡ true → or_in false (first_fail cs) l ≡ true → or_in false (cond b (first_fail cs) c.1) l ≡ true
    go true h ih = ih
    go false h ih = h

numbers_of_lem : (k : Setting) (g : ℕ) (v : View) (f : Bool) (q : Request) → (or_in false ok (numbers_of q) ≡ true) × (numbers_in (numbers_of q) (checks_of k g v f q) ≡ true)
unfolding checks_of
numbers_of_lem k g v f (Attach word) = (refl, refl)
numbers_of_lem k g v f (Control r w) = (refl, by_kind (λ t cs a. numbers_in (numbers_of (Control r w)) (cs f) ≡ true) k g v r (length w) (λ e. refl) (λ e. refl))
numbers_of_lem k g v f (Admit r w) = (refl, refl)
numbers_of_lem k g v f (Part x r w) = (refl, refl)
numbers_of_lem k g v f (KeyAnswer n) = (refl, refl)
numbers_of_lem k g v f (Key n) = (refl, refl)
numbers_of_lem k g v f (Finish op verdict w) = (refl, refl)

first_number : (w : World) (g : ℕ) (q : Request) → or_in false (first_fail (checks w g q)) (numbers_of q) ≡ true
unfolding checks
first_number w g q =
    let h = numbers_of_lem (setting w) g (view w g) (full w.table g) q in
    first_in (numbers_of q) (checks_of (setting w) g (view w g) (full w.table g) q) h.0 h.1

-- ---- the status that finish writes

-- it is 0, 1 or 2
pub status_cases : (P : ℕ → Type 0) (op verdict : ℕ) → P ok → P err → P badmsg → P (status op verdict)
unfolding status
status_cases P op verdict p0 p1 p2 = go (leb verdict err) refl (eqb verdict badmsg) refl (eqb op 769)
  where
    small : (n : ℕ) → n ≤ err → P n
    small zero h = p0
    small (suc zero) h = p1
    small (suc (suc n)) h = absurd (omega arith)

    go : (a : Bool) → leb verdict err ≡ a → (b : Bool) → eqb verdict badmsg ≡ b → (c : Bool) → P (cond (a || b && c) verdict err)
    go true e b f c = small verdict (leb-true verdict err e)
    go false e true f true = rw (eqb-true verdict badmsg f) p2
    go false e true f false = p1
    go false e false f c = p1

-- ---- the bytes that are written

pub last_byte : (b : List ℕ) (s : ℕ) → 0 < length b → LastByte b (data_outcome b s) s
unfolding data_outcome
last_byte b s h = record {
  nonempty = h;
  size = length-set b (length b - 1) s;
  last = get_or-set_same b (length b - 1) s 0 (omega arith);
  others = λ i d. get_or-set_other b (length b - 1) i s 0 (λ e. d (omega arith));
}

-- a check whose number is from 16 on holds where the answer is below 16
low_passed : (c : Check) (cs : List Check) → bad_guest ≤ c.1 → first_fail (c ∷ cs) < bad_guest → (c.0 ≡ true) × (first_fail cs < bad_guest)
unfolding first_fail
low_passed c cs h = go c.0 refl
  where
    go : (b : Bool) → c.0 ≡ b → cond b (first_fail cs) c.1 < bad_guest → (c.0 ≡ true) × (first_fail cs < bad_guest)
    go true e l = (e, l)
    go false e l = absurd (omega arith)

-- then a control request has 16 or one writable byte
control_place : (k : Setting) (g : ℕ) (v : View) (f : Bool) (r : List ℕ) (room : ℕ) → first_fail (control_checks k g v f r room) < bad_guest → (room ≡ 16) ⊎ (room ≡ 1)
control_place k g v f r room = by_kind (λ t cs a. first_fail (cs f) < bad_guest → (room ≡ 16) ⊎ (room ≡ 1)) k g v r room (λ e. third _) (λ e. third _)
  where
    one_of : (a b : Bool) → eqb room 16 ≡ a → eqb room 1 ≡ b → a || b ≡ true → (room ≡ 16) ⊎ (room ≡ 1)
    one_of true b p q e = inl (eqb-true room 16 p)
    one_of false true p q e = inr (eqb-true room 1 q)
    one_of false false p q e = absurd (false_true e)

    third : (cs : List Check) → first_fail (place_checks k.store (present g v.guest) room ++ cs) < bad_guest → (room ≡ 16) ⊎ (room ≡ 1)
    third cs l =
        let a = low_passed (sized k.store, bad_store) _ (omega arith) l in
        let b = low_passed (present g v.guest, bad_guest) _ (omega arith) a.1 in
        let c = low_passed (eqb room 16 || eqb room 1, no_outcome) cs (omega arith) b.1 in
        one_of (eqb room 16) (eqb room 1) refl refl c.0

-- and a data request or a finish is of a guest that is there, and has one byte or more
place_low : (here : Bool) (room : ℕ) (cs : List Check) → first_fail (finish_checks here room ++ cs) < bad_guest → Passed (finish_checks here room)
place_low here room cs l =
    let a = low_passed (here, bad_guest) ((leb 1 room, no_outcome) ∷ cs) (omega arith) l in
    let b = low_passed (leb 1 room, no_outcome) cs (omega arith) a.1 in
    (a.0, (b.0, tt))

-- ---- what is written

control_written : (b : List ℕ) (n : ℕ) → (length b ≡ 16) ⊎ (length b ≡ 1) → n < bad_guest
    → ((length b ≡ 16) × (control_bytes b 0 n ≡ le 8 0 ++ le 4 n ++ le 4 0)) ⊎ ((length b ≡ 1) × (control_bytes b 0 n ≡ n ∷ []))
unfolding control_bytes control_outcome
control_written b n (inl e) l = inl (e, rw (lt-ltb n bad_guest l, e))
control_written b n (inr e) l = inr (e, rw (lt-ltb n bad_guest l, e))

data_written : (here : Bool) (cs : List Check) (b : List ℕ) (n : ℕ) → n ≡ first_fail (finish_checks here (length b) ++ cs) → 0 < n → n < bad_guest → LastByte b (data_bytes b n) n
unfolding data_bytes
data_written here cs b n e h l =
    rw (lt-ltb n bad_guest l, ne_eqb n ok (λ z. omega arith)) (last_byte b n (leb-true 1 (length b) (place_low here (length b) cs (omega arith)).1.0))

finish_written : (here : Bool) (b : List ℕ) (s n : ℕ) → n ≡ first_fail (finish_checks here (length b))
    → (cond (granted n) (answered s (data_outcome b s)) (answered n b)).answer < bad_guest
    → LastByte b (cond (granted n) (answered s (data_outcome b s)) (answered n b)).writable (cond (granted n) (answered s (data_outcome b s)) (answered n b)).answer
finish_written here b s n e = go (granted n) refl
  where
    go : (t : Bool) → granted n ≡ t → (cond t (answered s (data_outcome b s)) (answered n b)).answer < bad_guest
        → LastByte b (cond t (answered s (data_outcome b s)) (answered n b)).writable (cond t (answered s (data_outcome b s)) (answered n b)).answer
    go true z l = last_byte b s (leb-true 1 (length b) (place_low here (length b) [] (omega (arith, e, eqb-true n ok z))).1.0)
    go false z l = absurd (eqb-false n ok z (e ∙ passed_first (finish_checks here (length b)) (place_low here (length b) [] (omega (arith, e, l)))))

-- ---- what a call leaves

-- a request that asks for no change
quiet : (w : World) (g : ℕ) (cs : List Check) → after w g (judge cs pass) ≡ w
unfolding table_after store_after
quiet w g [] = refl
quiet w g (c ∷ cs) = go c.0 (quiet w g cs)
  where
    go : (b : Bool) → after w g (judge cs pass) ≡ w → after w g (cond b (judge cs pass) (refuse c.1)) ≡ w
    go true ih = ih
    go false ih = refl

demand_kept : (w : World) (g : ℕ) (q : Request) → ((reply w g q).answer ≡ ok → ⊥) → next w g q ≡ w
unfolding reply outcome next act
demand_kept w g (Attach word) d = sym (refused_next w g (Attach word) _ refl d)
demand_kept w g (Control r b) d = sym (refused_next w g (Control r b) _ refl d)
demand_kept w g (Admit r b) d = quiet w g (checks w g (Admit r b))
demand_kept w g (Part x r b) d = quiet w g (checks w g (Part x r b))
demand_kept w g (KeyAnswer n) d = quiet w g (checks w g (KeyAnswer n))
demand_kept w g (Key n) d = quiet w g (checks w g (Key n))
demand_kept w g (Finish op verdict b) d = quiet w g (checks w g (Finish op verdict b))

-- ---- demand 1

demand_number : (w : World) (g : ℕ) (q : Request) → or_in false (reply w g q).answer (numbers_of q) ≡ true
unfolding reply outcome
demand_number w g (Attach word) = first_number w g (Attach word)
demand_number w g (Control r b) = first_number w g (Control r b)
demand_number w g (Admit r b) = first_number w g (Admit r b)
demand_number w g (Part x r b) = first_number w g (Part x r b)
demand_number w g (KeyAnswer n) = first_number w g (KeyAnswer n)
demand_number w g (Key n) = first_number w g (Key n)
demand_number w g (Finish op verdict b) = go (granted n) (first_number w g (Finish op verdict b))
  where
    n : ℕ
    n = first_fail (checks w g (Finish op verdict b))

    go : (t : Bool) → or_in false n (numbers_of (Finish op verdict b)) ≡ true → or_in false (cond t (answered (status op verdict) (data_outcome b (status op verdict))) (answered n b)).answer (numbers_of (Finish op verdict b)) ≡ true
    go true h = status_cases (λ (s : ℕ). or_in false s (numbers_of (Finish op verdict b)) ≡ true) op verdict refl refl refl
    go false h = h

demand_silent : (w : World) (g : ℕ) (q : Request) → bad_guest ≤ (reply w g q).answer → (reply w g q).writable ≡ buffer q
unfolding reply outcome control_bytes data_bytes
demand_silent w g (Attach word) h = refl
demand_silent w g (Control r b) h = rw (le-ltb (first_fail (checks w g (Control r b))) bad_guest h)
demand_silent w g (Admit r b) h = rw (le-ltb (first_fail (checks w g (Admit r b))) bad_guest h)
demand_silent w g (Part x r b) h = refl
demand_silent w g (KeyAnswer n) h = refl
demand_silent w g (Key n) h = refl
demand_silent w g (Finish op verdict b) h = go (granted n) h
  where
    n : ℕ
    n = first_fail (checks w g (Finish op verdict b))

    go : (t : Bool) → bad_guest ≤ (cond t (answered (status op verdict) (data_outcome b (status op verdict))) (answered n b)).answer
        → (cond t (answered (status op verdict) (data_outcome b (status op verdict))) (answered n b)).writable ≡ b
    go true h = absurd (status_cases (λ (s : ℕ). bad_guest ≤ s → ⊥) op verdict (λ l. omega arith) (λ l. omega arith) (λ l. omega arith) h)
    go false h = refl

demand_written : (w : World) (g : ℕ) (q : Request) → 0 < (reply w g q).answer → (reply w g q).answer < bad_guest → Refusal q (reply w g q).answer (reply w g q).writable
unfolding reply outcome checks checks_of
demand_written w g (Attach word) h l = refl
demand_written w g (Control r b) h l =
    let n = first_fail (control_checks (setting w) g (view w g) (full w.table g) r (length b)) in
    rw (ne_eqb n ok (λ e. omega arith)) (control_written b n (control_place (setting w) g (view w g) (full w.table g) r (length b) l) l)
demand_written w g (Admit r b) h l = data_written _ _ b _ refl h l
demand_written w g (Part x r b) h l = refl
demand_written w g (KeyAnswer n) h l = refl
demand_written w g (Key n) h l = refl
demand_written w g (Finish op verdict b) h l = finish_written _ b (status op verdict) _ refl l

pub demand1 : (w : World) (g : ℕ) (q : Request) → Demand1 w g q
demand1 w g q = record { number = demand_number w g q; kept = demand_kept w g q; silent = λ h. demand_silent w g q (omega (arith, h)); written = demand_written w g q }

-- ---- a refused set-up

pub set_up_refused : (config reserves caps store : List ℕ) → (set_up_answer config reserves caps store ≡ ok → ⊥) → SetUpRefused config reserves caps store
unfolding set_up set_up_answer
set_up_refused config reserves caps store d =
    let e = ne_eqb (set_up_answer config reserves caps store) ok d in
    record { number = refused (first_in (ok ∷ bad_store ∷ bad_shares ∷ bad_config ∷ []) (set_up_checks config reserves caps store) refl refl); kept = rw e; empty = rw e }
  where
    refused : or_in false (set_up_answer config reserves caps store) (ok ∷ bad_store ∷ bad_shares ∷ bad_config ∷ []) ≡ true
        → or_in false (set_up_answer config reserves caps store) (bad_store ∷ bad_shares ∷ bad_config ∷ []) ≡ true
    refused h = rw (ne_eqb (set_up_answer config reserves caps store) ok d) at h
