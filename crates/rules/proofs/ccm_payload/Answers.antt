-- `rules::ccm_payload` meets its contract: of an IV up to 11 the power is above every 32-bit number.
use mathlib.Core.Path.{sym}
use Prim.Native.Nat.{◌-◌, ◌^◌, ◌≤◌, ◌<◌}
use native.Mathlib.Nat.{pow-le-pow_right}
use Rattle.std.proofs.Common.{arith}
use borrow.Author.Tests.{lt-ltb}
use Rattle.rules.proofs.ccm_payload.Goals as goal

pub returns-in-0-to-11 : goal.returns-in-0-to-11
returns-in-0-to-11 c = let iv = c.args.iv in
    let n = c.args.n in
    let far : 4 ≤ 15 - iv = omega arith in
    let big : 256 ^ 4 ≤ 256 ^ (15 - iv) = pow-le-pow_right {n = 256} (omega arith) far in
    let small : n < 256 ^ (15 - iv) = omega arith in
    sym (lt-ltb n (256 ^ (15 - iv)) small)
