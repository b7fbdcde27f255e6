-- `has` meets its contract.
use borrow.Author.Tests.{lt-leb, le-leb}
use native.Mathlib.Omega.{arith}
use mathlib.Core.Path.{sym}
use Prim.Native.Nat.{◌+◌}
use lib.ListN.{length}
use Rattle.fields.proofs.has.Goals as goal

pub returns-then-bytes-size : goal.returns-then-bytes-size
returns-then-bytes-size c = sym (lt-leb (c.args.at + c.args.size) (length c.args.bytes.now) (omega arith))

pub returns-then-bytes-size-2 : goal.returns-then-bytes-size-2
returns-then-bytes-size-2 c = sym (lt-leb (c.args.at + c.args.size) (length c.args.bytes.now) (omega arith))

pub returns : goal.returns
returns c = sym (le-leb (c.args.at + c.args.size) (length c.args.bytes.now) (omega arith))
