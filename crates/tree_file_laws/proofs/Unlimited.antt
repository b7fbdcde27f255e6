-- Where no record passes a limit, the limits do not matter: reading comes to what it comes to under any wider ones, and `length tree` is as wide as
-- any, since no file has more records than bytes. So the reader is told by two things: the first record that passes, and reading without limits.
use mathlib.Core.Path.{◌≡◌, refl, sym, ap, ◌∙◌, subst⁻¹}
use mathlib.Core.Bool.{Bool, true, false}
use mathlib.Core.Option.{Option, none, some}
use mathlib.Core.List.{List, ◌∷◌, ◌++◌, map, []}
use Prim.Native.Nat.{ℕ, zero, suc, ◌+◌, ◌-◌, ◌/◌, ◌%◌, ◌≤◌, ◌<◌}
use native.Mathlib.Omega.{arith}
use lib.ListN.{length, replicate}
use lib.Dec.{ltb, leb, eqb}
use borrow.Author.Tests.{ltb-true, le-leb, le-ltb, lt-ltb}
use Rattle.rules.specs.Limits.{max_names}
use Rattle.rules.specs.declared.Span.{Span}
use Rattle.rules.specs.declared.Refusal.TheVariants.{TreeForm, TreeTooDeep, TooManyOpen}
use Rattle.rules.specs.Reader as r
use Rattle.rules.specs.Reader.{Read, Reader, got, bad}
use Rattle.rules.specs.Tree.{Expr, Stmt, Stmts, Fun}
use Rattle.rules.specs.TreeFile as t
use Rattle.rules_laws.proofs.Facts.{All, all_map}
use Rattle.tree_file_laws.proofs.Opened as recs
use Rattle.tree_file_laws.proofs.Opened.{Child, Mark, Task, Opened, an_expr, a_stmt, task, nesting, if_got, opened_from, opened}
use Rattle.tree_file_laws.proofs.Opened.{first_passing, refused_for}
use Rattle.tree_file_laws.proofs.Passing.{Plainly, Plain, plain_then, plain_return, plain_need, plain_many, plain_u8, plain_u16, plain_span}
use Rattle.tree_file_laws.proofs.Passing.{plain_kind, plain_flag, plain_read_names, plain_name, plain_literal}
use Rattle.tree_file_laws.proofs.Passing.{Opening, Opens, opens_then, opens_mark_is, opens_expr_mark, opens_stmt_mark}
use Rattle.tree_file_laws.proofs.Passing.{too_deep_exactly, too_many_exactly, Ended, no_limit, no_form_first, at_limit, ended}

-- ## Wider limits change nothing but 4 and 5

-- the one outcome is the other, or is 4 or 5
data Alike {A : Type 0} (narrow wide : Read A) : Type 0 where
  the_same : narrow ≡ wide → Alike narrow wide
  deep : (place : ℕ) → narrow ≡ bad (TreeTooDeep place) → Alike narrow wide
  many : (place : ℕ) → narrow ≡ bad (TooManyOpen place) → Alike narrow wide

record Same {A : Type 0} (narrow wide : Reader A) : Type 0 where
  run : (at : ℕ) → Alike (narrow at) (wide at)

itself : {A : Type 0} (m : Reader A) → Same m m
itself m = record { run = λ at. the_same refl }

first : {A B : Type 0} {m n : Reader A} (f g : A → Reader B) → Same m n → ((a : A) → Same (f a) (g a)) → Same (r.◌>>=◌ m f) (r.◌>>=◌ n g)
unfolding r.◌>>=◌ r.go_on
first {A} {B = B} {m = m} {n = n} f g hm hf = record { run = λ at. on (m at) (n at) (hm.run at) }
  where
    after : (o : Read A) → Alike (r.go_on o f) (r.go_on o g)
    after (got a next) = (hf a).run next
    after (bad fault) = the_same refl

    on : (o p : Read A) → Alike o p → Alike (r.go_on o f) (r.go_on p g)
    on o p (the_same e) = subst⁻¹ (λ (o : Read A). Alike (r.go_on o f) (r.go_on p g)) e (after p)
    on o p (deep place e) = deep place (ap (λ (o : Read A). r.go_on o f) e)
    on o p (many place e) = many place (ap (λ (o : Read A). r.go_on o f) e)

next : {A B : Type 0} {m n : Reader A} {k l : Reader B} → Same m n → Same k l → Same (r.◌>>◌ m k) (r.◌>>◌ n l)
unfolding r.◌>>◌ r.◌>>=◌
next {k = k} {l = l} hm hk = first (λ _. k) (λ _. l) hm (λ _. hk)

-- the same field, and then
field : {A B : Type 0} (m : Reader A) (f g : A → Reader B) → ((a : A) → Same (f a) (g a)) → Same (r.◌>>=◌ m f) (r.◌>>=◌ m g)
field m f g h = first f g (itself m) h

-- the same field, and 4
refused : {A B : Type 0} (m : Reader A) (place : ℕ) (g : A → Reader B) → Same (r.◌>>=◌ m (λ _. r.refuse (TreeTooDeep place))) (r.◌>>=◌ m g)
unfolding r.refuse
refused m place g = field m _ g (λ a. record { run = λ at. deep place refl })

-- more may be opened
opens : {A : Type 0} (b c : Bool) → (b ≡ true → c ≡ true) → (place : ℕ) {k l : Reader A} → (b ≡ true → Same k l) →
    Same (r.◌>>◌ (r.need b (TooManyOpen place)) k) (r.◌>>◌ (r.need c (TooManyOpen place)) l)
unfolding r.◌>>◌ r.go_on r.need
opens true true f place h = record { run = λ at. (h refl).run at }
opens true false f place h = let z : false ≡ true = f refl in let y : ◌≡◌ {A = ℕ} 0 1 = cc in absurd (omega arith)
opens false c f place h = record { run = λ at. many place refl }

module _ (tree : List ℕ) (names : ℕ) where
  read_exprs : (count : ℕ) {m n : Reader Expr} → Same m n → Same (t.read_exprs count m) (t.read_exprs count n)
  unfolding t.read_exprs
  read_exprs zero h = itself _
  read_exprs (suc count) h = first _ _ h (λ e. first _ _ (read_exprs count h) (λ es. itself _))

  maybe : {A : Type 0} (b : Bool) {m n : Reader A} → Same m n → Same (t.maybe b m) (t.maybe b n)
  unfolding t.maybe
  maybe false h = itself _
  maybe true h = first _ _ h (λ a. itself _)

  expr_fields : {m n : Reader Expr} → Same m n → (place : ℕ) (k : t.ExprMark) (s : Span) →
      Same (t.expr_fields tree names m (TreeForm place) k s) (t.expr_fields tree names n (TreeForm place) k s)
  unfolding t.expr_fields t.assign_fields t.call_fields t.get_fields t.infix_fields t.literal_fields t.prefix_fields t.set_fields t.super_fields t.var_fields
  expr_fields h place t.EA s = field _ _ _ (λ n. first _ _ h (λ v. itself _))
  expr_fields h place t.EC s = field _ _ _ (λ count. first _ _ h (λ f. first _ _ (read_exprs count h) (λ es. itself _)))
  expr_fields h place t.EG s = field _ _ _ (λ n. first _ _ h (λ v. itself _))
  expr_fields h place t.EI s = field _ _ _ (λ op. first _ _ h (λ a. first _ _ h (λ b. itself _)))
  expr_fields h place t.EL s = itself _
  expr_fields h place t.EP s = field _ _ _ (λ op. first _ _ h (λ a. itself _))
  expr_fields h place t.ES s = field _ _ _ (λ n. first _ _ h (λ v. first _ _ h (λ e. itself _)))
  expr_fields h place t.EU s = itself _
  expr_fields h place t.EV s = itself _

  read_expr : (few more : ℕ) → few ≤ more → Same (t.read_expr tree names few) (t.read_expr tree names more)
  unfolding t.read_expr t.expr_record
  read_expr zero zero l = itself _
  read_expr zero (suc more) l = field _ _ _ (λ start. refused _ start _)
  read_expr (suc few) zero l = absurd (omega arith)
  read_expr (suc few) (suc more) l =
      field _ _ _ (λ start. field _ _ _ (λ k. field _ _ _ (λ s. expr_fields (read_expr few more (omega arith)) start k s)))

  read_superclass : (few more : ℕ) → few ≤ more → Same (t.read_superclass tree names few) (t.read_superclass tree names more)
  unfolding t.read_superclass r.◌>>◌ r.◌>>=◌
  read_superclass zero zero l = itself _
  read_superclass zero (suc more) l = field _ _ _ (λ start. refused _ start _)
  read_superclass (suc few) zero l = absurd (omega arith)
  read_superclass (suc few) (suc more) l = itself _

  read_stmts : (count : ℕ) {m n : Reader Stmt} → Same m n → Same (t.read_stmts count m) (t.read_stmts count n)
  unfolding t.read_stmts
  read_stmts zero h = itself _
  read_stmts (suc count) h = first _ _ h (λ e. first _ _ (read_stmts count h) (λ ts. itself _))

  read_methods : (count : ℕ) {m n : Reader (Span × Fun)} → Same m n → Same (t.read_methods count m) (t.read_methods count n)
  unfolding t.read_methods
  read_methods zero h = itself _
  read_methods (suc count) h = first _ _ h (λ m. first _ _ (read_methods count h) (λ ms. itself _))

  maybe_stmt : (b : Bool) {m n : Reader Stmt} → Same m n → Same (t.maybe_stmt b m) (t.maybe_stmt b n)
  unfolding t.maybe_stmt
  maybe_stmt false h = itself _
  maybe_stmt true h = first _ _ h (λ a. itself _)

  fun_fields : {m n : Reader Stmt} → Same m n → (place : ℕ) → Same (t.fun_fields tree names m (TreeForm place)) (t.fun_fields tree names n (TreeForm place))
  unfolding t.fun_fields
  fun_fields h place =
      field _ _ _ (λ n. field _ _ _ (λ arity. field _ _ _ (λ ns. field _ _ _ (λ count. first _ _ (read_stmts count h) (λ body. itself _)))))

  record SameChildren (few more : t.Children) : Type 0 where
    expr : Same few.expr more.expr
    superclass : Same few.superclass more.superclass
    stmt : Same few.stmt more.stmt
    inner : Same few.inner more.inner
    one_method : Same few.one_method more.one_method

  stmt_fields : (few more : t.Children) → SameChildren few more → (place : ℕ) (k : t.StmtMark) (s : Span) →
      Same (t.stmt_fields tree names few (TreeForm place) k s) (t.stmt_fields tree names more (TreeForm place) k s)
  unfolding t.stmt_fields t.block_fields t.class_fields t.expression_fields t.if_fields t.for_fields t.print_fields t.return_fields t.var_stmt_fields t.while_fields
  stmt_fields few more h place t.SB s = field _ _ _ (λ count. first _ _ (read_stmts count h.stmt) (λ ts. itself _))
  stmt_fields few more h place t.SC s =
      field _ _ _ (λ n. field _ _ _ (λ has_super. field _ _ _ (λ count.
      first _ _ (maybe has_super h.superclass) (λ sup. first _ _ (read_methods count h.one_method) (λ ms. itself _)))))
  stmt_fields few more h place t.SE s = first _ _ h.expr (λ e. itself _)
  stmt_fields few more h place t.SF s = first _ _ (fun_fields h.inner place) (λ f. itself _)
  stmt_fields few more h place t.SI s =
      field _ _ _ (λ has-else. first _ _ h.expr (λ e. first _ _ h.stmt (λ a. first _ _ (maybe_stmt has-else h.stmt) (λ b. itself _))))
  stmt_fields few more h place t.SO s =
      field _ _ _ (λ parts. next (itself _)
      (first _ _ (maybe_stmt (eqb (parts % 2) 1) h.stmt) (λ a.
      first _ _ (maybe (eqb (parts / 2 % 2) 1) h.expr) (λ c.
      first _ _ h.stmt (λ b. first _ _ (maybe (eqb (parts / 4) 1) h.expr) (λ d. itself _))))))
  stmt_fields few more h place t.SP s = first _ _ h.expr (λ e. itself _)
  stmt_fields few more h place t.SR s = field _ _ _ (λ has_value. first _ _ (maybe has_value h.expr) (λ v. itself _))
  stmt_fields few more h place t.SV s = field _ _ _ (λ n. field _ _ _ (λ has_value. first _ _ (maybe has_value h.expr) (λ v. itself _)))
  stmt_fields few more h place t.SW s = first _ _ h.expr (λ e. first _ _ h.stmt (λ b. itself _))

  more_free : (k : t.StmtMark) (free more_free : ℕ) → free ≤ more_free → t.may_open k free ≡ true → t.may_open k more_free ≡ true
  unfolding t.may_open
  more_free t.SB free more l e = refl
  more_free t.SC free more l e = refl
  more_free t.SE free more l e = refl
  more_free t.SF free more l e = lt-ltb 0 more (omega (arith, ltb-true 0 free e))
  more_free t.SI free more l e = refl
  more_free t.SO free more l e = refl
  more_free t.SP free more l e = refl
  more_free t.SR free more l e = refl
  more_free t.SV free more l e = refl
  more_free t.SW free more l e = refl

  mutual
    unfolding t.read_stmt t.stmt_record t.method_record r.◌>>◌ r.◌>>=◌

    read_stmt : (few more free more_free : ℕ) → few ≤ more → free ≤ more_free → Same (t.read_stmt tree names few free) (t.read_stmt tree names more more_free)
    read_stmt zero zero free wide l g = itself _
    read_stmt zero (suc more) free wide l g = field _ _ _ (λ start. refused _ start _)
    read_stmt (suc few) zero free wide l g = absurd (omega arith)
    read_stmt (suc few) (suc more) free wide l g =
        field _ _ _ (λ start. field _ _ _ (λ k.
        opens (t.may_open k free) (t.may_open k wide) (more_free k free wide g) start (λ _.
        field _ _ _ (λ s. stmt_fields _ _
        (record {
          expr = read_expr few more (omega arith);
          superclass = read_superclass few more (omega arith);
          stmt = read_stmt few more free wide (omega arith) g;
          inner = read_stmt few more (free - 1) (wide - 1) (omega arith) (omega arith);
          one_method = read_method few more free wide (omega arith) g;
        })
        start k s))))

    read_method : (few more free more_free : ℕ) → few ≤ more → free ≤ more_free →
        Same (t.read_method tree names few free) (t.read_method tree names more more_free)
    read_method zero zero free wide l g = itself _
    read_method zero (suc more) free wide l g = field _ _ _ (λ start. refused _ start _)
    read_method (suc few) zero free wide l g = absurd (omega arith)
    read_method (suc few) (suc more) free wide l g =
        field _ _ _ (λ start. next (itself _)
        (opens (ltb 0 free) (ltb 0 wide) (λ e. lt-ltb 0 wide (omega (arith, ltb-true 0 free e))) start (λ _.
        field _ _ _ (λ s. first _ _ (fun_fields (read_stmt few more (free - 1) (wide - 1) (omega arith) (omega arith)) start) (λ f. itself _)))))

-- so of a whole file
wider : (tree : List ℕ) (few more free more_free : ℕ) → few ≤ more → free ≤ more_free →
    Alike (t.read_tree tree few free) (t.read_tree tree more more_free)
unfolding t.read_tree t.read_file
wider tree few more free more_free l g =
    (next (itself (r.mark_is tree (TreeForm 0) 0x5452))
    (field _ _ _ (λ names. field _ _ _ (λ count.
    next (itself (r.need (leb names max_names) (TreeForm 0)))
    (next (itself (t.read_names tree names none))
    (first _ _ (read_stmts tree names count (read_stmt tree names few more free more_free l g)) (λ ts. itself _))))))).run 0

-- ## No record stands deeper than the file is long

module _ (tree : List ℕ) where
  -- a record to be read at `at` stands in no more than `at` others, each of which has taken bytes
  abbrev Low : (at : ℕ) → List Task → Type 0
  Low at tasks = All (λ (x : Task). (x.depth ≤ at) × (x.around ≤ at)) tasks

  low_children : (depth around at : ℕ) (cs : List Child) (tasks : List Task) → depth ≤ at → around ≤ at → Low at tasks →
      Low at (map (task depth around) cs ++ tasks)
  low_children depth around at [] tasks l g h = h
  low_children depth around at (c ∷ cs) tasks l g h = ((l, g), low_children depth around at cs tasks l g h)

  low_on : (at i : ℕ) → at ≤ i → (tasks : List Task) → Low at tasks → Low i tasks
  low_on at i l tasks h = all_map _ _ (λ x p. (omega (arith, p.0), omega (arith, p.1))) tasks h

  nesting_so : (m : Mark) (around : ℕ) → nesting m around ≤ suc around
  nesting_so (an_expr k) around = omega arith
  nesting_so (a_stmt t.SB) around = omega arith
  nesting_so (a_stmt t.SC) around = omega arith
  nesting_so (a_stmt t.SE) around = omega arith
  nesting_so (a_stmt t.SF) around = omega arith
  nesting_so (a_stmt t.SI) around = omega arith
  nesting_so (a_stmt t.SO) around = omega arith
  nesting_so (a_stmt t.SP) around = omega arith
  nesting_so (a_stmt t.SR) around = omega arith
  nesting_so (a_stmt t.SV) around = omega arith
  nesting_so (a_stmt t.SW) around = omega arith

  module _ (names : ℕ) where
    opens_record : (c : Child) (place : ℕ) → Opens tree (recs.read_mark tree names c (TreeForm place))
    opens_record recs.expr place = opens_then tree _ (opens_expr_mark tree names place) (λ k. plain_return _)
    opens_record recs.superclass place = opens_then tree _ (opens_mark_is tree place 0x4556) (λ _. plain_return _)
    opens_record recs.stmt place = opens_then tree _ (opens_stmt_mark tree names place) (λ k. plain_return _)
    opens_record recs.method place = opens_then tree _ (opens_mark_is tree place 0x5346) (λ _. plain_return _)

    plain_expr : (place : ℕ) (k : t.ExprMark) → Plain (recs.expr_children tree names (TreeForm place) k)
    plain_expr place t.EA = plain_then _ (plain_name tree names place) (λ _. plain_return _)
    plain_expr place t.EC = plain_then _ (plain_u16 tree place) (λ _. plain_return _)
    plain_expr place t.EG = plain_then _ (plain_name tree names place) (λ _. plain_return _)
    plain_expr place t.EI = plain_then _ (plain_kind tree place t.infix_ops) (λ _. plain_return _)
    plain_expr place t.EL = plain_then _ (plain_kind tree place t.literal_kinds) (λ k. plain_then _ (plain_literal tree names place k) (λ _. plain_return _))
    plain_expr place t.EP = plain_then _ (plain_kind tree place t.prefix_ops) (λ _. plain_return _)
    plain_expr place t.ES = plain_then _ (plain_name tree names place) (λ _. plain_return _)
    plain_expr place t.EU = plain_then _ (plain_name tree names place) (λ _. plain_return _)
    plain_expr place t.EV = plain_then _ (plain_name tree names place) (λ _. plain_return _)

    plain_stmt : (place : ℕ) (k : t.StmtMark) → Plain (recs.stmt_children tree names (TreeForm place) k)
    plain_stmt place t.SB = plain_then _ (plain_u16 tree place) (λ _. plain_return _)
    plain_stmt place t.SC =
        plain_then _ (plain_name tree names place) (λ _. plain_then _ (plain_flag tree place) (λ _. plain_then _ (plain_u16 tree place) (λ _. plain_return _)))
    plain_stmt place t.SE = plain_return _
    plain_stmt place t.SF =
        plain_then _ (plain_name tree names place) (λ _.
        plain_then _ (plain_u16 tree place) (λ arity.
        plain_then _ (plain_many arity (plain_name tree names place)) (λ _. plain_then _ (plain_u16 tree place) (λ _. plain_return _))))
    plain_stmt place t.SI = plain_then _ (plain_flag tree place) (λ _. plain_return _)
    plain_stmt place t.SO =
        plain_then _ (plain_u8 tree place) (λ parts. plain_then _ (plain_need (ltb parts 8) place) (λ _. plain_return _))
    plain_stmt place t.SP = plain_return _
    plain_stmt place t.SR = plain_then _ (plain_flag tree place) (λ _. plain_return _)
    plain_stmt place t.SV = plain_then _ (plain_name tree names place) (λ _. plain_then _ (plain_flag tree place) (λ _. plain_return _))
    plain_stmt place t.SW = plain_return _

    plain_fields : (m : Mark) (place : ℕ) → Plain (recs.fields tree names m (TreeForm place))
    plain_fields (an_expr k) place = plain_then _ (plain_span tree place) (λ _. plain_expr place k)
    plain_fields (a_stmt k) place = plain_then _ (plain_span tree place) (λ _. plain_stmt place k)

    none_passes : (fuel : ℕ) (tasks : List Task) (at : ℕ) → Low at tasks →
        first_passing (length tree) (length tree) (opened_from tree names fuel tasks at) ≡ none
    none_passes zero tasks at h = refl
    none_passes (suc fuel) [] at h = refl
    none_passes (suc fuel) (x ∷ tasks) at h =
        by_mark (recs.read_mark tree names x.child (TreeForm at) at) ((opens_record x.child at).run at)
        (λ tasks at h. none_passes fuel tasks at h)
      where
        by_fields : (m : Mark) (i : ℕ) → at < i → (o : Read (List Child)) → Plainly i o →
            ((tasks : List Task) (at : ℕ) → Low at tasks → first_passing (length tree) (length tree) (opened_from tree names fuel tasks at) ≡ none) →
            first_passing (length tree) (length tree)
            (if_got o (λ cs j. opened_from tree names fuel (map (task (suc x.depth) (nesting m x.around)) cs ++ tasks) j)) ≡ none
        by_fields m i l (got cs j) k ih =
            ih _ j (low_children (suc x.depth) (nesting m x.around) j cs tasks (omega (arith, h.0.0))
            (omega (arith, h.0.1, nesting_so m x.around)) (low_on at j (omega arith) tasks h.1))
        by_fields m i l (bad fault) k ih = refl

        by_mark : (o : Read Mark) → Opening tree at o →
            ((tasks : List Task) (at : ℕ) → Low at tasks → first_passing (length tree) (length tree) (opened_from tree names fuel tasks at) ≡ none) →
            first_passing (length tree) (length tree) (if_got o (λ m i.
            record { place = at; depth = x.depth; nesting = nesting m x.around } ∷
            if_got (recs.fields tree names m (TreeForm at) i)
            (λ cs j. opened_from tree names fuel (map (task (suc x.depth) (nesting m x.around)) cs ++ tasks) j))) ≡ none
        by_mark (got m i) k ih =
            let z : leb x.depth (length tree) ≡ true = le-leb x.depth (length tree) (omega (arith, h.0.0, k.1)) in
            let y : ltb (length tree) (nesting m x.around) ≡ false =
            le-ltb (length tree) (nesting m x.around) (omega (arith, h.0.1, k.1, nesting_so m x.around)) in
            rw (z, y) (by_fields m i k.0 (recs.fields tree names m (TreeForm at) i) ((plain_fields m at).run i) ih)
        by_mark (bad fault) k ih = refl

  -- limits as wide as the file is long are none
  pub no_limits : first_passing (length tree) (length tree) (opened tree) ≡ none
  no_limits = by_header (recs.read_header tree 0) (header.run 0)
    where
      header : Opens tree (recs.read_header tree)
      header =
          opens_then tree _ (opens_mark_is tree 0 0x5452) (λ _.
          plain_then _ (plain_u16 tree 0) (λ names.
          plain_then _ (plain_u16 tree 0) (λ count.
          plain_then _ (plain_need (leb names max_names) 0) (λ _. plain_then _ (plain_read_names tree names none) (λ _. plain_return _)))))

      low : (count at : ℕ) → 0 < at → Low at (map (task 1 0) (replicate count recs.stmt))
      low zero at l = tt
      low (suc count) at l = ((omega arith, omega arith), low count at l)

      by_header : (o : Read (ℕ × ℕ)) → Opening tree 0 o →
          first_passing (length tree) (length tree)
          (if_got o (λ h i. opened_from tree h.0 (length tree) (map (task 1 0) (replicate h.1 recs.stmt)) i)) ≡ none
      by_header (got h i) k = none_passes h.0 (length tree) (map (task 1 0) (replicate h.1 recs.stmt)) i (low h.1 i k.0)
      by_header (bad fault) k = refl

  -- ## What the reader answers

  -- where no record passes a limit, wider limits give the same
  pub same_wider : (depth funs : ℕ) → first_passing depth funs (opened tree) ≡ none → (more-depth more-funs : ℕ) → depth ≤ more-depth → funs ≤ more-funs →
      t.read_tree tree depth funs ≡ t.read_tree tree more-depth more-funs
  same_wider depth funs n more-depth more-funs l g = by_case (wider tree depth more-depth funs more-funs l g)
    where
      neither : (x : Opened) → first_passing depth funs (opened tree) ≡ some x → ⊥
      neither x e = let z : ◌≡◌ {A = ℕ} 0 1 = cc in omega arith

      by_case : Alike (t.read_tree tree depth funs) (t.read_tree tree more-depth more-funs) →
          t.read_tree tree depth funs ≡ t.read_tree tree more-depth more-funs
      by_case (the_same e) = e
      by_case (deep place e) = let p = (too_deep_exactly tree depth funs place).0 e in absurd (neither p.0 p.1)
      by_case (many place e) = let p = (too_many_exactly tree depth funs place).0 e in absurd (neither p.0 p.1)

  -- the answer, given the first record that passes a limit and what reading without limits gives
  abbrev pub told : (depth funs : ℕ) → Option Opened → Read Stmts → Read Stmts
  told depth funs none unlimited = unlimited
  told depth funs (some x) unlimited = bad (refused_for depth funs x)

  pub limits_told : (depth funs : ℕ) →
      t.read_tree tree depth funs ≡ told depth funs (first_passing depth funs (opened tree)) (t.read_tree tree (length tree) (length tree))
  limits_told depth funs = by_end (ended tree depth funs)
    where
      wide : first_passing depth funs (opened tree) ≡ none → t.read_tree tree depth funs ≡ t.read_tree tree (length tree) (length tree)
      wide n =
          same_wider depth funs n (depth + length tree) (funs + length tree) (omega arith) (omega arith)
          ∙ sym (same_wider (length tree) (length tree) no_limits (depth + length tree) (funs + length tree) (omega arith) (omega arith))

      by_end : Ended tree depth funs →
          t.read_tree tree depth funs ≡ told depth funs (first_passing depth funs (opened tree)) (t.read_tree tree (length tree) (length tree))
      by_end (no_limit n ts next e) = rw n (wide n)
      by_end (no_form_first n place e) = rw n (wide n)
      by_end (at_limit x n b e) = rw n e
