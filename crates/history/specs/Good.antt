-- Each held slot is a live session of its owner, and every call keeps it so.
-- Assumes nothing.
use Rattle.std.specs.Prelude.{◌≡◌, refl, ◌⊎◌, Bool, true, false, cond, ◌&&◌, List, ℕ, ◌≤◌, ◌<◌, eqb, length, get_or, set}
use Rattle.std.proofs.Common.{sym, ◌∙◌, subst, inl, inr, arith, eqb-true, eq-eqb, le-leb, lt-ltb, get_or-set_same, get_or-set_other}
use Rattle.lists.specs.Seek.{count, first, All, All-weaken, first_same, count_none}
use Rattle.model.specs.declared.Guest.{Guest}
use Rattle.model.specs.View.{Setting}
use Rattle.history.specs.Cells.{Cell, no_cell, owns, named, matches}
use Rattle.model.specs.View.{given}
use Rattle.model.specs.Session.{new_guest, accepts}
use Rattle.history.specs.Apply.{release}
use Rattle.model.specs.Act.{restarted, numbered}
use Rattle.lists.specs.Test.{false_true, same, not_true, and_true}

-- a live session of the guest whose record is r
pub record Live (k : Setting) (r : Guest) (c : Cell) : Type 0 where
  pub attached : r.attached ≡ true
  pub low : 0 < c.place.number
  pub high : c.place.number ≤ r.last
  pub sound : accepts k.config c.place.session ≡ true

abbrev pub Good : Setting → List Guest → Cell → Type 0
Good k l c = c.place.held ≡ true → Live k (get_or l c.place.owner (new_guest 0 0)) c

-- ---- what the tests say

pub named_true : (g n : ℕ) (c : Cell) → named g n c ≡ true → (c.place.held ≡ true) × (c.place.owner ≡ g) × (c.place.number ≡ n)
named_true g n c e =
    let a = and_true (owns g c) (eqb c.place.number n) e in
    let b = and_true c.place.held (eqb c.place.owner g) a.0 in
    (b.0, eqb-true c.place.owner g b.1, eqb-true c.place.number n a.1)

pub free_owns : (g : ℕ) (c : Cell) → c.place.held ≡ false → owns g c ≡ false
free_owns g c e = rw e

pub other_owns : (g : ℕ) (c : Cell) → (c.place.owner ≡ g → ⊥) → owns g c ≡ false
other_owns g c h = not_true (owns g c) (λ e. h (eqb-true c.place.owner g (and_true c.place.held (eqb c.place.owner g) e).1))

-- a slot that g does not own matches none of its numbers
pub unowned_matches : (k : Setting) (r : Guest) (g n : ℕ) (c : Cell) → owns g c ≡ false → matches k r g n c ≡ false
unowned_matches k r g n c e = rw e

pub unowned_named : (g n : ℕ) (c : Cell) → owns g c ≡ false → named g n c ≡ false
unowned_named g n c e = rw e

-- in a good slot the owner and the number decide
pub matches_named : (k : Setting) (l : List Guest) (g n : ℕ) (c : Cell) → Good k l c → matches k (get_or l g (new_guest 0 0)) g n c ≡ named g n c
matches_named k l g n c h = go (named g n c) refl
  where
    go : (b : Bool) → named g n c ≡ b → b && given k.config (get_or l g (new_guest 0 0)) n c.place ≡ b
    go false e = refl
    go true e =
        let t = named_true g n c e in
        let v = h t.0 in
        rw (← t.2, ← t.1) (rw (v.attached, lt-ltb 0 c.place.number v.low, le-leb c.place.number (get_or l c.place.owner (new_guest 0 0)).last v.high, v.sound))

pub first_named : (k : Setting) (l : List Guest) (g n : ℕ) (cs : List Cell) → All (Good k l) cs → first (matches k (get_or l g (new_guest 0 0)) g n) cs ≡ first (named g n) cs
first_named k l g n cs a =
    first_same (matches k (get_or l g (new_guest 0 0)) g n) (named g n) cs
    (All-weaken (Good k l) (λ c. matches k (get_or l g (new_guest 0 0)) g n c ≡ named g n c) (matches_named k l g n) cs a)

-- a number not yet given is in no slot
pub fresh_number : (k : Setting) (l : List Guest) (g n : ℕ) (cs : List Cell) → (get_or l g (new_guest 0 0)).last < n → All (Good k l) cs → count (named g n) cs ≡ 0
fresh_number k l g n cs h a = count_none (named g n) cs (All-weaken (Good k l) (λ c. named g n c ≡ false) unused cs a)
  where
    unused : (c : Cell) → Good k l c → named g n c ≡ false
    unused c d = not_true (named g n c) (λ e.
        let t = named_true g n c e in
        let v : c.place.number ≤ (get_or l c.place.owner (new_guest 0 0)).last = (d t.0).high in
        let w : c.place.number ≤ (get_or l g (new_guest 0 0)).last = rw t.1 at v in
        omega (arith, t.2))

-- ---- every call keeps the slots good

pub free_good : (k : Setting) (l : List Guest) (c : Cell) → c.place.held ≡ false → Good k l c
free_good k l c e h = absurd (false_true (sym e ∙ h))

pub good_create : (k : Setting) (l : List Guest) (g : ℕ) (c : Cell) → g < length l → Good k l c → Good k (set l g (numbered (get_or l g (new_guest 0 0)))) c
unfolding numbered
good_create k l g c b d h = go (same c.place.owner g)
  where
    go : (c.place.owner ≡ g) ⊎ (c.place.owner ≡ g → ⊥) → Live k (get_or (set l g (numbered (get_or l g (new_guest 0 0)))) c.place.owner (new_guest 0 0)) c
    go (inl e) =
        let v : Live k (get_or l g (new_guest 0 0)) c = subst (λ (o : ℕ). Live k (get_or l o (new_guest 0 0)) c) e (d h) in
        subst (λ (o : ℕ). Live k (get_or (set l g (numbered (get_or l g (new_guest 0 0)))) o (new_guest 0 0)) c) (sym e)
        (rw (get_or-set_same l g (numbered (get_or l g (new_guest 0 0))) (new_guest 0 0) b)
        record { attached = v.attached; low = v.low; high = omega (arith, v.high); sound = v.sound })
    go (inr e) = rw (get_or-set_other l g c.place.owner (numbered (get_or l g (new_guest 0 0))) (new_guest 0 0) e) (d h)

pub good_attach : (k : Setting) (l : List Guest) (g : ℕ) (c : Cell) → Good k l c → Good k (set l g (restarted (get_or l g (new_guest 0 0)))) (release g c)
good_attach k l g c d = go (owns g c) refl
  where
    go : (b : Bool) → owns g c ≡ b → Good k (set l g (restarted (get_or l g (new_guest 0 0)))) (cond b no_cell c)
    go true e h = absurd (false_true h)
    go false e h = rw (get_or-set_other l g c.place.owner (restarted (get_or l g (new_guest 0 0))) (new_guest 0 0) foreign) (d h)
      where
        foreign : c.place.owner ≡ g → ⊥
        foreign o = false_true (sym e ∙ rw (h, eq-eqb c.place.owner g o))
