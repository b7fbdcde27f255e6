-- `put_constants`: of the constants, what is left is still to be put.
use Prim.Native.Nat.{◌+◌, ◌-◌, ◌*◌, ◌≤◌}
use Rattle.std.specs.Prelude.{length, drop, map}
use Rattle.rules.specs.Image.{join, constant_bytes}
use Rattle.state.specs.Layout.{constant_of}
use Rattle.writer_bytes.proofs.Padding.{Putting}
use Rattle.writer_constants.proofs.put_constants.Given as goal

abbrev pub invariant-loop-w : goal.invariant-loop-w
invariant-loop-w l =
    Putting l.initial.out l.out l.at l.next (join constant_bytes (map constant_of l.words)) (join constant_bytes (map constant_of (drop l.w-index l.words)))
    × (l.next + (length l.words - l.w-index) * 10 ≤ 1152921504606846976)
