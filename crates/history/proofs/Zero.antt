-- A fact of each slot with its key area that every list of calls keeps: the zero rule is one.
-- Assumes nothing.
use Rattle.std.specs.Prelude.{Bool, true, false, cond, ℕ, suc}
use mathlib.Core.List.{List, [], ◌∷◌}
use Rattle.lists.specs.Seek.{All, All-swap, All-map}
use Rattle.model.specs.View.{Setting, View}
use Rattle.history.specs.Cells.{State, Cell, view, full, guest_of, matches, owns, is_free, no_cell}
use Rattle.model.specs.Act.{Act, refuse, pass, attach, create, destroy}
use Rattle.history.specs.Apply.{gate, apply, new_cell, release}
use Rattle.history.specs.Rules.{Rules, Call, wish, act, next, run}
use Rattle.history.specs.Zero.{Fills}

fills_gate : (P : Cell → Type 0) (f : Bool) (a : Act) → Fills P a → Fills P (gate f a)
fills_gate P f (refuse n) h = tt
fills_gate P f pass h = tt
fills_gate P f attach h = tt
fills_gate P true (create e) h = tt
fills_gate P false (create e) h = h
fills_gate P f (destroy n) h = tt

all_apply : (P : Cell → Type 0) → P no_cell → (s : State) (g : ℕ) (a : Act) → Fills P a → All P s.cells → All P (apply s g a).cells
unfolding apply
all_apply P z s g (refuse n) h a = a
all_apply P z s g pass h a = a
all_apply P z s g attach h a = All-map P P (release g) freed s.cells a
  where
    freed : (c : Cell) → P c → P (release g c)
    freed c p = go (owns g c)
      where
        go : (b : Bool) → P (cond b no_cell c)
        go true = z
        go false = p
all_apply P z s g (create e) h a = All-swap P is_free (new_cell s g e) s.cells (h g (suc (guest_of s g).last)) a
all_apply P z s g (destroy n) h a = All-swap P (matches s.setting (guest_of s g) g n) no_cell s.cells z a

module _ (R : Rules) (P : Cell → Type 0) (none : P no_cell) (fills : (k : Setting) (g : ℕ) (v : View) (q : R.Request) → Fills P (R.decide k g v q)) where
  pub all_run : (s : State) (cs : List (Call R)) → All P s.cells → All P (run R s cs).cells
  unfolding run next
  all_run s [] a = a
  all_run s (c ∷ cs) a =
      let g = c.guest in
      let h = fills_gate P (full s g) (wish R s c) (fills s.setting g (view s g) c.request) in
      all_run (next R s c) cs (all_apply P none s g (act R s c) h a)
