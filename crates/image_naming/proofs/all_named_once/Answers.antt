-- `all_named_once` meets its contract: each function before the block is named once.
use Prim.Native.Nat.{ℕ, ◌+◌, ◌-◌}
use native.Mathlib.Omega.{arith}
use mathlib.Core.Path.{◌≡◌, refl, sym, ◌∙◌}
use lib.Dec.{eqb}
use Rattle.std.specs.Prelude.{min}
use Rattle.rules.specs.Checker.{names_in_all}
use Rattle.image_constants.specs.Earlier.{earlier}
use Rattle.image_code.proofs.Once.{all_begin}
use Rattle.image_naming.proofs.Walking.{blocks_on, named_no, named_yes}
use Rattle.image_naming.proofs.all_named_once.Goals as goal

pub loop-base-init : goal.loop-base-init
loop-base-init c =
    let none : min 0 (c.args.count - 1) ≡ 0 = omega arith in
    (refl, rw none (all_begin (λ (number : ℕ). eqb (names_in_all number (earlier c.args.s.now c.args.count)) 1)))

pub returns-then-not-block_once : goal.returns-then-not-block_once
returns-then-not-block_once c =
    named_no c.args.s.now c.args.count (c.args.count - 1) refl c.requires.1 c.loop-base.base c.min.result
    (sym c.if-not-block_once.true ∙ c.block_once.ensures)
    (omega (arith, c.min.ensures, c.loop-base-test.true))

pub loop-base-preserved : goal.loop-base-preserved
loop-base-preserved c =
    let before : min c.loop-base.base (c.args.count - 1) ≡ c.loop-base.base = omega (arith, c.loop-base-test.true) in
    let after : min (c.loop-base.base + 65536) (c.args.count - 1) ≡ c.loop-base.base + c.min.result =
    omega (arith, c.min.ensures, c.loop-base-test.true) in (
      refl,
      rw after (blocks_on (λ (number : ℕ). eqb (names_in_all number (earlier c.args.s.now c.args.count)) 1)
          c.loop-base.base c.min.result (rw before at c.loop-base.invariant.1) (sym (sym c.if-not-block_once.false ∙ c.block_once.ensures))),
    )

pub returns : goal.returns
returns c =
    named_yes c.args.s.now c.args.count (c.args.count - 1) refl c.requires.1 (min c.loop-base.base (c.args.count - 1)) c.loop-base.invariant.1
    (omega (arith, c.loop-base-test.false))

pub returns-else-not-block_once : goal.returns-else-not-block_once
returns-else-not-block_once c =
    let before : min c.loop-base.base (c.args.count - 1) ≡ c.loop-base.base = omega (arith, c.loop-base-test.true) in
    let all : c.loop-base.base + c.min.result ≡ c.args.count - 1 = omega (arith, c.min.ensures) in
    named_yes c.args.s.now c.args.count (c.args.count - 1) refl c.requires.1 (c.loop-base.base + c.min.result)
    (blocks_on (λ (number : ℕ). eqb (names_in_all number (earlier c.args.s.now c.args.count)) 1)
    c.loop-base.base c.min.result (rw before at c.loop-base.invariant.1) (sym (sym c.if-not-block_once.false ∙ c.block_once.ensures))) all
