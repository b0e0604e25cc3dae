-- What the search for a live session finds: nothing for a number that was not given.
-- Assumes nothing.
use Rattle.std.specs.Prelude.{◌≡◌, Bool, true, false, ◌&&◌, ℕ, eqb, length}
use Rattle.std.proofs.Common.{ap, sym, ◌∙◌}
use Rattle.lists.specs.Seek.{index_out}
use Rattle.lists.specs.Test.{and_false}
use Rattle.laws.specs.Slots.{slots_length}
use Rattle.model.specs.declared.Guest.{Guest}
use Rattle.model.specs.declared.Table.{Table}
use Rattle.model.specs.Session.{Place, slots_of, guest_at, accepts}
use Rattle.model.specs.View.{owned, live, live_at}
use Rattle.table.specs.Search.{was_given, claimed}

module _ (t : Table) (g n : ℕ) (r : Guest) (w : Bool) (e : r ≡ guest_at t g) (f : w ≡ was_given r n) where
  asked : w ≡ was_given (guest_at t g) n
  asked = f ∙ ap (λ (q : Guest). was_given q n) e

  -- of a number that was given, a slot is live where it is claimed
  pub live_given : w ≡ true → (c : Place) (b : Bool) → b ≡ claimed t.config g n c → b ≡ live t g n c
  live_given y c b h = h ∙ ap (λ (v : Bool). owned g c && eqb c.number n && (v && accepts t.config c.session)) (sym y ∙ asked)

  -- and of another none is
  pub live_never : length t.slots ≡ 128 → w ≡ false → 128 ≡ live_at t g n
  live_never k y = sym (index_out (live t g n) never (slots_of t) ∙ slots_length t k)
    where
      never : (c : Place) → live t g n c ≡ false
      never c =
          ap (λ (v : Bool). owned g c && eqb c.number n && (v && accepts t.config c.session)) (sym asked ∙ y)
          ∙ and_false (owned g c && eqb c.number n)
