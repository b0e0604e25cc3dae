-- The key's bytes in front, and zeros behind them.
use Prim.Native.Nat.{ℕ, ◌<◌}
use mathlib.Core.Path.{◌≡◌, refl, sym, ◌∙◌}
use lib.ListN.{length, length-set}
use Rattle.std.proofs.Common.{arith, take_all}
use Rattle.std.proofs.lemmas.List.{take_more_set, take_more}
use Rattle.keystore.specs.StoredLaws.{key_laid}
use Rattle.keystore.proofs.fill.Goals as goal

pub loop-i-init : goal.loop-i-init
loop-i-init c = (refl, refl)

pub loop-i-preserved : goal.loop-i-preserved
loop-i-preserved c = let loop = c.loop-i in
    let key = c.args.key.now in
    let there : loop.i < length loop.front = omega arith in
    let here : loop.i < length key = omega arith in
    (simp length-set loop.invariant.0, rw (take_more_set, take_more {X = ℕ} key loop.i 0 here, loop.invariant.1) refl)

pub returns : goal.returns
returns c = let loop = c.loop-i in
    let end : loop.i ≡ c.min-n.result = omega arith in
    let front = sym (take_all _ _ (omega arith)) ∙ rw end at loop.invariant.1 in
    let zeros = c.fill.ensures.after (λ y e. e) in
    key_laid _ _ _ _ _ _ c.min-n.ensures front zeros c.split_at_mut-front.ensures.back_len
