-- What a method is, by its name.
use borrow.Author.Rules.{rules}
use Rattle.stmt_heads.proofs.Heads.{init_kind, other_kind, some_kind}
use Rattle.stmt_heads.proofs.method_kind.Goals as goal

pub returns-then-name-eq-INIT : goal.returns-then-name-eq-INIT
returns-then-name-eq-INIT c = (init_kind _ c.if-name-eq-INIT.true, some_kind.0)

pub returns : goal.returns
returns c = (other_kind _ (search rules), some_kind.1)
