-- 4 and 5 come back for the first record, in reading order, that passes a limit, and 3 only where none does. Reading goes along the list of the
-- records that the file opens: `Fate` says how far, `Agrees` says so of a reader and the records that it has to read.
use mathlib.Core.Path.{◌≡◌, refl, sym, ap, ◌∙◌, subst, subst⁻¹}
use mathlib.Core.Logic.{◌↔◌}
use mathlib.Core.Bool.{Bool, true, false}
use mathlib.Core.Option.{Option, none, some}
use mathlib.Core.List.{List, ◌∷◌, ◌++◌, append_assoc, append-nil, map, map-append, []}
use Prim.Native.Nat.{ℕ, zero, suc, ◌+◌, ◌-◌, ◌/◌, ◌%◌, ◌≤◌, ◌<◌}
use native.Mathlib.Omega.{arith}
use lib.ListN.{length, get_or, replicate}
use lib.Dec.{T, ltb, leb, eqb, ltb→lt}
use borrow.Author.Tests.{ltb-true, ltb-false, leb-true, leb-false, le-leb, lt-leb, le-ltb, lt-ltb}
use Rattle.rules.specs.Base.{lookup, all}
use Rattle.std.specs.Prelude.{if◌then◌else◌}
use Rattle.rules.specs.Limits.{max_names, max_bits}
use Rattle.rules.specs.declared.Span.{Span}
use Rattle.rules.specs.declared.Refusal.TheVariants.{TreeForm, TreeTooDeep, TooManyOpen}
use Rattle.rules.specs.Reader as r
use Rattle.rules.specs.Reader.{Read, Reader, got, bad}
use Rattle.rules.specs.Tree.{Expr, []ᵉ, []ˢ, []ᵐ}
use Rattle.rules.specs.Tree.{Stmt, Stmts}
use Rattle.rules.specs.Tree.{Fun}
use Rattle.rules.specs.TreeFile as t
use Rattle.rules_laws.proofs.Facts.{All}
use Rattle.tree_file_laws.proofs.Opened as recs
use Rattle.tree_file_laws.proofs.Opened.{Child, Mark, Task, Opened, an_expr, a_stmt, task, nesting, if_got, optional, opened_from, opened}
use Rattle.tree_file_laws.proofs.Opened.{passes, first_passing, refused_for}

-- ## Fields refuse by 3 alone, and never go back

abbrev pub Plainly : {A : Type 0} → (at : ℕ) → Read A → Type 0
Plainly at (got a next) = at ≤ next
Plainly at (bad fault) = (place : ℕ) × (fault ≡ TreeForm place)

pub record Plain {A : Type 0} (m : Reader A) : Type 0 where
  pub run : (at : ℕ) → Plainly at (m at)

pub plain_then : {A B : Type 0} {m : Reader A} (f : A → Reader B) → Plain m → ((a : A) → Plain (f a)) → Plain (r.◌>>=◌ m f)
unfolding r.◌>>=◌ r.go_on
plain_then {A} {m = m} f hm hf = record { run = λ at. on at (m at) (hm.run at) }
  where
    further : {B : Type 0} (at i : ℕ) (o : Read B) → at ≤ i → Plainly i o → Plainly at o
    further at i (got b next) l h = omega arith
    further at i (bad fault) l h = h

    on : (at : ℕ) (o : Read A) → Plainly at o → Plainly at (r.go_on o f)
    on at (got a next) l = further at next (f a next) l ((hf a).run next)
    on at (bad fault) h = h

plain_next : {A B : Type 0} {m : Reader A} {n : Reader B} → Plain m → Plain n → Plain (r.◌>>◌ m n)
unfolding r.◌>>◌ r.◌>>=◌
plain_next {n = n} hm hn = plain_then (λ _. n) hm (λ _. hn)

pub plain_return : {A : Type 0} (a : A) → Plain (r.return a)
unfolding r.return
plain_return a = record { run = λ at. omega arith }

plain_here : Plain r.here
unfolding r.here
plain_here = record { run = λ at. omega arith }

pub plain_need : (b : Bool) (place : ℕ) → Plain (r.need b (TreeForm place))
unfolding r.need
plain_need true place = record { run = λ at. omega arith }
plain_need false place = record { run = λ at. (place, refl) }

plain_one_of : {A : Type 0} (place : ℕ) (table : List (ℕ × A)) (n : ℕ) → Plain (r.one_of (TreeForm place) table n)
unfolding r.one_of r.known r.refuse
plain_one_of {A} place table n = by_row (lookup n table)
  where
    by_row : (o : Option A) → Plain (r.known (TreeForm place) o)
    by_row none = record { run = λ at. (place, refl) }
    by_row (some a) = plain_return a

pub plain_many : {A : Type 0} (count : ℕ) {one : Reader A} → Plain one → Plain (r.many count one)
unfolding r.many
plain_many zero h = plain_return []
plain_many (suc count) h = plain_then _ h (λ a. plain_then _ (plain_many count h) (λ rest. plain_return _))

module _ (tree : List ℕ) where
  pub plain_u8 : (place : ℕ) → Plain (r.u8 tree (TreeForm place))
  unfolding r.u8
  plain_u8 place = record { run = λ at. by_test at (ltb at (length tree)) }
    where
      by_test : (at : ℕ) (b : Bool) → Plainly at (if b then got (get_or tree at 0) (at + 1) else bad (TreeForm place))
      by_test at true = omega arith
      by_test at false = (place, refl)

  pub plain_u16 : (place : ℕ) → Plain (r.u16 tree (TreeForm place))
  unfolding r.u16
  plain_u16 place = plain_then _ (plain_u8 place) (λ a. plain_then _ (plain_u8 place) (λ b. plain_return _))

  plain_u32 : (place : ℕ) → Plain (r.u32 tree (TreeForm place))
  unfolding r.u32
  plain_u32 place = plain_then _ (plain_u16 place) (λ a. plain_then _ (plain_u16 place) (λ b. plain_return _))

  plain_u64 : (place : ℕ) → Plain (r.u64 tree (TreeForm place))
  unfolding r.u64
  plain_u64 place = plain_then _ (plain_u32 place) (λ a. plain_then _ (plain_u32 place) (λ b. plain_return _))

  pub plain_span : (place : ℕ) → Plain (r.span tree (TreeForm place))
  unfolding r.span
  plain_span place = plain_then _ (plain_u32 place) (λ a. plain_then _ (plain_u32 place) (λ b. plain_return _))

  plain_mark_is : (place m : ℕ) → Plain (r.mark_is tree (TreeForm place) m)
  unfolding r.mark_is r.mark
  plain_mark_is place m =
      plain_then _ (plain_then _ (plain_u8 place) (λ a. plain_then _ (plain_u8 place) (λ b. plain_return _))) (λ n. plain_need (eqb n m) place)

  pub plain_kind : {A : Type 0} (place : ℕ) (table : List (ℕ × A)) → Plain (r.◌>>=◌ (r.u8 tree (TreeForm place)) (r.one_of (TreeForm place) table))
  plain_kind place table = plain_then _ (plain_u8 place) (plain_one_of place table)

  pub plain_flag : (place : ℕ) → Plain (t.flag tree (TreeForm place))
  unfolding t.flag
  plain_flag place = plain_kind place t.flags

  plain_read_name : (last : Option (List ℕ)) → Plain (t.read_name tree last)
  unfolding t.read_name
  plain_read_name last =
      plain_then _ plain_here (λ start.
      plain_next (plain_mark_is start 0x4E4D)
      (plain_then _ (plain_u16 start) (λ size.
      plain_then _ (plain_many size (plain_u8 start)) (λ text.
      plain_next (plain_need (t.rises tree last text) start)
      (plain_next (plain_need (all (t.differs tree text) t.fixed_names) start) (plain_return text))))))

  pub plain_read_names : (count : ℕ) (last : Option (List ℕ)) → Plain (t.read_names tree count last)
  unfolding t.read_names
  plain_read_names zero last = plain_return tt
  plain_read_names (suc count) last = plain_then _ (plain_read_name last) (λ text. plain_read_names count (some text))

  -- ## A mark is read only where bytes are left

  abbrev pub Opening : {A : Type 0} → (at : ℕ) → Read A → Type 0
  Opening at (got a next) = (at < next) × (at < length tree)
  Opening at (bad fault) = (place : ℕ) × (fault ≡ TreeForm place)

  pub record Opens {A : Type 0} (m : Reader A) : Type 0 where
    pub run : (at : ℕ) → Opening at (m at)

  pub opens_then : {A B : Type 0} {m : Reader A} (f : A → Reader B) → Opens m → ((a : A) → Plain (f a)) → Opens (r.◌>>=◌ m f)
  unfolding r.◌>>=◌ r.go_on
  opens_then {A} {B = B} {m = m} f hm hf = record { run = λ at. on at (m at) (hm.run at) }
    where
      further : (at i : ℕ) (o : Read B) → at < i → at < length tree → Plainly i o → Opening at o
      further at i (got b next) l k h = (omega arith, k)
      further at i (bad fault) l k h = h

      on : (at : ℕ) (o : Read A) → Opening at o → Opening at (r.go_on o f)
      on at (got a next) h = further at next (f a next) h.0 h.1 ((hf a).run next)
      on at (bad fault) h = h

  opens_u8 : (place : ℕ) → Opens (r.u8 tree (TreeForm place))
  unfolding r.u8
  opens_u8 place = record { run = λ at. by_test at (ltb at (length tree)) refl }
    where
      by_test : (at : ℕ) (b : Bool) → ltb at (length tree) ≡ b → Opening at (if b then got (get_or tree at 0) (at + 1) else bad (TreeForm place))
      by_test at true e = (omega arith, ltb→lt at (length tree) (rw e tt))
      by_test at false e = (place, refl)

  opens_mark : (place : ℕ) → Opens (r.mark tree (TreeForm place))
  unfolding r.mark
  opens_mark place = opens_then _ (opens_u8 place) (λ a. plain_then _ (plain_u8 place) (λ b. plain_return _))

  pub opens_mark_is : (place m : ℕ) → Opens (r.mark_is tree (TreeForm place) m)
  unfolding r.mark_is
  opens_mark_is place m = opens_then _ (opens_mark place) (λ n. plain_need (eqb n m) place)

  module _ (names : ℕ) where
    pub opens_expr_mark : (place : ℕ) → Opens (t.expr_mark tree names (TreeForm place))
    unfolding t.expr_mark
    opens_expr_mark place = opens_then _ (opens_mark place) (plain_one_of place t.expr_marks)

    pub opens_stmt_mark : (place : ℕ) → Opens (t.stmt_mark tree names (TreeForm place))
    unfolding t.stmt_mark
    opens_stmt_mark place = opens_then _ (opens_mark place) (plain_one_of place t.stmt_marks)

    pub plain_name : (place : ℕ) → Plain (t.name tree names (TreeForm place))
    unfolding t.name
    plain_name place = plain_then _ (plain_u16 place) (λ n. plain_next (plain_need (ltb n (4 + names)) place) (plain_return n))

    pub plain_literal : (place : ℕ) (k : t.LiteralKind) → Plain (t.literal_of tree names (TreeForm place) k)
    unfolding t.literal_of
    plain_literal place t.a_false = plain_return _
    plain_literal place t.a_true = plain_return _
    plain_literal place t.a_nil = plain_return _
    plain_literal place t.a_number = plain_then _ (plain_u64 place) (λ bits. plain_next (plain_need (leb bits max_bits) place) (plain_return _))
    plain_literal place t.a_string = plain_then _ (plain_name place) (λ n. plain_return _)

-- ## How far reading goes along the list

module _ (depth funs : ℕ) where
  -- none of these passes a limit
  abbrev Clear : List Opened → Type 0
  Clear xs = All (λ (x : Opened). passes depth funs x ≡ false) xs

  clear_both : (xs ys : List Opened) → Clear xs → Clear ys → Clear (xs ++ ys)
  clear_both [] ys h k = k
  clear_both (x ∷ xs) ys h k = (h.0, clear_both xs ys h.1 k)

module _ (tree : List ℕ) (depth funs names : ℕ) where
  -- at `at`, with the records `rest` still to be read after it, a reader came to `outcome` where the list is `seen`
  data Fate {A : Type 0} (outcome : Read A) (seen : List Opened) (rest : List Task) (at : ℕ) : Type 0 where
    goes_on : (a : A) (next : ℕ) (passed : List Opened) (fuel : ℕ) → outcome ≡ got a next → Clear depth funs passed →
        seen ≡ passed ++ opened_from tree names fuel rest next → length tree ≤ next + fuel → at ≤ next → Fate outcome seen rest at
    no_form : (place : ℕ) → outcome ≡ bad (TreeForm place) → Clear depth funs seen → Fate outcome seen rest at
    passing : (passed : List Opened) (x : Opened) (after : List Opened) → outcome ≡ bad (refused_for depth funs x) → Clear depth funs passed →
        seen ≡ passed ++ (x ∷ after) → passes depth funs x ≡ true → Fate outcome seen rest at

  -- after records that pass no limit
  behind : {A : Type 0} (passed : List Opened) {outcome : Read A} {seen : List Opened} {rest : List Task} {at i : ℕ} → Clear depth funs passed → at ≤ i →
      Fate outcome seen rest i → Fate outcome (passed ++ seen) rest at
  behind passed h l (goes_on a next more fuel e w s f g) =
      goes_on a next (passed ++ more) fuel e (clear_both depth funs passed more h w) (ap (λ (xs : List Opened). passed ++ xs) s ∙ sym (append_assoc passed more _)) f
      (omega arith)
  behind passed {seen = seen} h l (no_form place e w) = no_form place e (clear_both depth funs passed seen h w)
  behind passed h l (passing more x after e w s b) =
      passing (passed ++ more) x after e (clear_both depth funs passed more h w) (ap (λ (xs : List Opened). passed ++ xs) s ∙ sym (append_assoc passed more _)) b

  -- a reader of the children `cs`, which stand `deep` deep and in `around` functions
  record Agrees {A : Type 0} (deep around : ℕ) (m : Reader A) (cs : List Child) : Type 0 where
    run : (at fuel : ℕ) (rest : List Task) → length tree ≤ at + fuel →
        Fate (m at) (opened_from tree names fuel (map (task deep around) cs ++ rest) at) rest at

  none_to_read : {A : Type 0} (deep around : ℕ) (a : A) → Agrees deep around (r.return a) []
  unfolding r.return
  none_to_read deep around a = record { run = λ at fuel rest l. goes_on a at [] fuel refl tt refl l (omega arith) }

  -- some children, and then others
  child : {A B : Type 0} {deep around : ℕ} {m : Reader A} (f : A → Reader B) {cs ds : List Child} → Agrees deep around m cs →
      ((a : A) → Agrees deep around (f a) ds) → Agrees deep around (r.◌>>=◌ m f) (cs ++ ds)
  unfolding r.◌>>=◌ r.go_on
  child {A} {B = B} {deep = deep} {around = around} {m = m} f {cs = cs} {ds = ds} hm hf =
      record {
        run =
            λ at fuel rest l. subst⁻¹ (λ (tasks : List Task). Fate (r.go_on (m at) f) (opened_from tree names fuel tasks at) rest at) (tasks rest)
            (on at rest (m at) _ (hm.run at fuel (map (task deep around) ds ++ rest) l));
      }
    where
      tasks : (rest : List Task) → map (task deep around) (cs ++ ds) ++ rest ≡ map (task deep around) cs ++ (map (task deep around) ds ++ rest)
      tasks rest = ap (λ (xs : List Task). xs ++ rest) (map-append (task deep around) cs ds) ∙ append_assoc (map (task deep around) cs) (map (task deep around) ds) rest

      on : (at : ℕ) (rest : List Task) (o : Read A) (seen : List Opened) → Fate o seen (map (task deep around) ds ++ rest) at → Fate (r.go_on o f) seen rest at
      on at rest o seen (goes_on a next passed fuel e w s g l) =
          subst⁻¹ (λ (o : Read A). Fate (r.go_on o f) seen rest at) e
          (subst⁻¹ (λ (seen : List Opened). Fate (f a next) seen rest at) s (behind passed w l ((hf a).run next fuel rest g)))
      on at rest o seen (no_form place e w) = subst⁻¹ (λ (o : Read A). Fate (r.go_on o f) seen rest at) e (no_form place refl w)
      on at rest o seen (passing passed x after e w s b) =
          subst⁻¹ (λ (o : Read A). Fate (r.go_on o f) seen rest at) e (passing passed x after refl w s b)

  -- what was read is put into something larger
  put_in : {A B : Type 0} (g : A → B) {o : Read A} {seen : List Opened} {rest : List Task} {at : ℕ} → Fate o seen rest at →
      Fate (r.go_on o (λ a. r.return (g a))) seen rest at
  unfolding r.go_on r.return
  put_in {A} g {seen = seen} {rest = rest} {at = at} (goes_on a next passed fuel e w s l k) =
      goes_on (g a) next passed fuel (ap (λ (o : Read A). r.go_on o (λ a. r.return (g a))) e) w s l k
  put_in {A} g (no_form place e w) = no_form place (ap (λ (o : Read A). r.go_on o (λ a. r.return (g a))) e) w
  put_in {A} g (passing passed x after e w s b) = passing passed x after (ap (λ (o : Read A). r.go_on o (λ a. r.return (g a))) e) w s b

  -- the last children of a record
  last : {A B : Type 0} {deep around : ℕ} {m : Reader A} (g : A → B) {cs : List Child} → Agrees deep around m cs →
      Agrees deep around (r.◌>>=◌ m (λ a. r.return (g a))) cs
  unfolding r.◌>>=◌
  last g h = record { run = λ at fuel rest l. put_in g (h.run at fuel rest l) }

  -- a reader beside one that reads the same fields and gives the children; `K` is what then is opened
  record Follows {A C : Type 0} (rest : List Task) (K : (fuel : ℕ) → C → ℕ → List Opened) (m : Reader A) (h : Reader C) : Type 0 where
    run : (at fuel : ℕ) → length tree ≤ at + fuel → Fate (m at) (if_got (h at) (K fuel)) rest at

  field : {X A C : Type 0} {rest : List Task} {K : (fuel : ℕ) → C → ℕ → List Opened} {p : Reader X} (f : X → Reader A) (g : X → Reader C) → Plain p →
      ((x : X) → Follows rest K (f x) (g x)) → Follows rest K (r.◌>>=◌ p f) (r.◌>>=◌ p g)
  unfolding r.◌>>=◌ r.go_on
  field {X} {rest = rest} {K = K} {p = p} f g hp h = record { run = λ at fuel l. on at fuel l (p at) (hp.run at) }
    where
      on : (at fuel : ℕ) → length tree ≤ at + fuel → (o : Read X) → Plainly at o → Fate (r.go_on o f) (if_got (r.go_on o g) (K fuel)) rest at
      on at fuel l (got x next) k = behind [] tt k ((h x).run next fuel (omega arith))
      on at fuel l (bad fault) k = no_form k.0 (ap bad k.1) tt

  -- the same where its value is not asked for
  field_next : {X A C : Type 0} {rest : List Task} {K : (fuel : ℕ) → C → ℕ → List Opened} {p : Reader X} (n : Reader A) (g : Reader C) → Plain p →
      Follows rest K n g → Follows rest K (r.◌>>◌ p n) (r.◌>>=◌ p (λ _. g))
  unfolding r.◌>>◌ r.◌>>=◌
  field_next n g hp h = field (λ _. n) (λ _. g) hp (λ _. h)

  put_into : {A B C : Type 0} {rest : List Task} {K : (fuel : ℕ) → C → ℕ → List Opened} {m : Reader A} {h : Reader C} (g : A → B) →
      Follows rest K m h → Follows rest K (r.◌>>=◌ m (λ a. r.return (g a))) h
  unfolding r.◌>>=◌
  put_into g k = record { run = λ at fuel l. put_in g (k.run at fuel l) }

  -- the children, `deep` deep and in `around` functions, and then the rest
  abbrev Inside : (deep around : ℕ) (rest : List Task) → (fuel : ℕ) → List Child → ℕ → List Opened
  Inside deep around rest fuel cs i = opened_from tree names fuel (map (task deep around) cs ++ rest) i

  children : {A : Type 0} {deep around : ℕ} {rest : List Task} {m : Reader A} (cs : List Child) → Agrees deep around m cs →
      Follows rest (Inside deep around rest) m (r.return cs)
  unfolding r.return
  children {rest = rest} cs h = record { run = λ at fuel l. h.run at fuel rest l }

  -- ## A record

  a_record : {X A : Type 0} (c : Child) (deep around at : ℕ) {m : Reader X} (f : X → Mark) →
      recs.read_mark tree names c (TreeForm at) ≡ r.◌>>=◌ m (λ x. r.return (f x)) → Opens tree m → (body : X → Reader A) →
      ((x : X) (i fuel : ℕ) (rest : List Task) → length tree ≤ i + fuel →
      Fate (body x i) (record { place = at; depth = deep; nesting = nesting (f x) around } ∷
      if_got (recs.fields tree names (f x) (TreeForm at) i) (Inside (suc deep) (nesting (f x) around) rest fuel)) rest i) →
      (fuel : ℕ) (rest : List Task) → length tree ≤ at + fuel → Fate (r.◌>>=◌ m body at) (opened_from tree names fuel (task deep around c ∷ rest) at) rest at
  unfolding r.◌>>=◌ r.go_on r.return
  a_record {X} c deep around at {m = m} f e hm body h zero rest l = on (m at) (hm.run at)
    where
      on : (o : Read X) → Opening tree at o → Fate (r.go_on o body) [] rest at
      on (got x next) k = absurd (omega (arith, k.1))
      on (bad fault) k = no_form k.0 (ap bad k.1) tt
  a_record {X} c deep around at {m = m} f e hm body h (suc fuel) rest l =
      subst⁻¹ (λ (marks : Reader Mark). Fate (r.go_on (m at) body) (seen (marks at)) rest at) e (on (m at) (hm.run at))
    where
      seen : Read Mark → List Opened
      seen o = if_got o (λ k i. record { place = at; depth = deep; nesting = nesting k around } ∷
          if_got (recs.fields tree names k (TreeForm at) i) (Inside (suc deep) (nesting k around) rest fuel))

      on : (o : Read X) → Opening tree at o → Fate (r.go_on o body) (seen (r.go_on o (λ x. r.return (f x)))) rest at
      on (got x next) k = behind [] tt (omega (arith, k.0)) (h x next fuel rest (omega (arith, k.0)))
      on (bad fault) k = no_form k.0 (ap bad k.1) tt

  too_deep : (place deep around : ℕ) → deep ≡ suc depth → {A : Type 0} {seen : List Opened} {rest : List Task} {i : ℕ} →
      Fate {A = A} (bad (TreeTooDeep place)) (record { place = place; depth = deep; nesting = around } ∷ seen) rest i
  too_deep place deep around e =
      let z : leb deep depth ≡ false = lt-leb deep depth (omega arith) in
      passing [] (record { place = place; depth = deep; nesting = around }) _ (rw z) tt refl (rw z)

  too_many : (place deep around : ℕ) → deep ≤ depth → funs < around → {A : Type 0} {seen : List Opened} {rest : List Task} {i : ℕ} →
      Fate {A = A} (bad (TooManyOpen place)) (record { place = place; depth = deep; nesting = around } ∷ seen) rest i
  too_many place deep around l g =
      let z : leb deep depth ≡ true = le-leb deep depth l in
      let y : ltb funs around ≡ true = lt-ltb funs around g in
      passing [] (record { place = place; depth = deep; nesting = around }) _ (rw z) tt refl (rw (z, y))

  within : (place deep around : ℕ) → deep ≤ depth → around ≤ funs → Clear depth funs (record { place = place; depth = deep; nesting = around } ∷ [])
  within place deep around l g =
      let z : leb deep depth ≡ true = le-leb deep depth l in
      let y : ltb funs around ≡ false = le-ltb funs around g in
      (rw (z, y), tt)

  -- ## Expressions

  read_exprs : (count : ℕ) {deep around : ℕ} {one : Reader Expr} → Agrees deep around one (recs.expr ∷ []) →
      Agrees deep around (t.read_exprs count one) (replicate count recs.expr)
  unfolding t.read_exprs
  read_exprs zero h = none_to_read _ _ []ᵉ
  read_exprs (suc count) h = child _ h (λ e. last _ (read_exprs count h))

  maybe : {A : Type 0} (b : Bool) {deep around : ℕ} {one : Reader A} {c : Child} → Agrees deep around one (c ∷ []) →
      Agrees deep around (t.maybe b one) (optional b c)
  unfolding t.maybe
  maybe false h = none_to_read _ _ none
  maybe true h = last _ h

  expr_fields : {rest : List Task} (expr : Reader Expr) (deep around : ℕ) → Agrees deep around expr (recs.expr ∷ []) → (place : ℕ) (k : t.ExprMark) (s : Span) →
      Follows rest (Inside deep around rest) (t.expr_fields tree names expr (TreeForm place) k s) (recs.expr_children tree names (TreeForm place) k)
  unfolding t.expr_fields t.assign_fields t.call_fields t.get_fields t.infix_fields t.literal_fields t.prefix_fields t.set_fields t.super_fields t.var_fields
  expr_fields expr deep around h place t.EA s = field _ _ (plain_name tree names place) (λ n. children _ (last _ h))
  expr_fields expr deep around h place t.EC s = field _ _ (plain_u16 tree place) (λ count. children _ (child _ h (λ f. last _ (read_exprs count h))))
  expr_fields expr deep around h place t.EG s = field _ _ (plain_name tree names place) (λ n. children _ (last _ h))
  expr_fields expr deep around h place t.EI s = field _ _ (plain_kind tree place t.infix_ops) (λ op. children _ (child _ h (λ a. last _ h)))
  expr_fields expr deep around h place t.EL s =
      field _ _ (plain_kind tree place t.literal_kinds) (λ k. field _ _ (plain_literal tree names place k) (λ v. children _ (none_to_read _ _ _)))
  expr_fields expr deep around h place t.EP s = field _ _ (plain_kind tree place t.prefix_ops) (λ op. children _ (last _ h))
  expr_fields expr deep around h place t.ES s = field _ _ (plain_name tree names place) (λ n. children _ (child _ h (λ v. last _ h)))
  expr_fields expr deep around h place t.EU s = field _ _ (plain_name tree names place) (λ n. children _ (none_to_read _ _ _))
  expr_fields expr deep around h place t.EV s = field _ _ (plain_name tree names place) (λ n. children _ (none_to_read _ _ _))

  -- what `left` levels more may be opened below: a record that stands `deep` deep may be opened while `left` is above 0
  read_expr : (left deep around : ℕ) → deep + left ≡ suc depth → around ≤ funs → Agrees deep around (t.read_expr tree names left) (recs.expr ∷ [])
  unfolding t.read_expr t.expr_record r.◌>>=◌ r.go_on r.here r.refuse
  read_expr zero deep around e g =
      record {
        run =
            λ at fuel rest l. a_record recs.expr deep around at an_expr refl (opens_expr_mark tree names at) _
            (λ k i fuel rest l. too_deep at deep around (omega arith)) fuel rest l;
      }
  read_expr (suc left) deep around e g =
      record {
        run =
            λ at fuel rest l. a_record recs.expr deep around at an_expr refl (opens_expr_mark tree names at) _
            (λ k i fuel rest l. behind (record { place = at; depth = deep; nesting = around } ∷ []) (within at deep around (omega arith) g) (omega arith)
            ((field _ _ (plain_span tree at) (λ s. expr_fields (t.read_expr tree names left) (suc deep) around
            (read_expr left (suc deep) around (omega arith) g) at k s)).run i fuel l)) fuel rest l;
      }

  read_superclass : (left deep around : ℕ) → deep + left ≡ suc depth → around ≤ funs →
      Agrees deep around (t.read_superclass tree names left) (recs.superclass ∷ [])
  unfolding t.read_superclass r.◌>>=◌ r.◌>>◌ r.go_on r.here r.refuse
  read_superclass zero deep around e g =
      record {
        run =
            λ at fuel rest l. a_record recs.superclass deep around at (λ _. an_expr t.EV) refl (opens_mark_is tree at 0x4556) _
            (λ _ i fuel rest l. too_deep at deep around (omega arith)) fuel rest l;
      }
  read_superclass (suc left) deep around e g =
      record {
        run =
            λ at fuel rest l. a_record recs.superclass deep around at (λ _. an_expr t.EV) refl (opens_mark_is tree at 0x4556) _
            (λ _ i fuel rest l. behind (record { place = at; depth = deep; nesting = around } ∷ []) (within at deep around (omega arith) g) (omega arith)
            ((field _ _ (plain_span tree at) (λ s. field _ _ (plain_name tree names at) (λ n. children {deep = suc deep} {around = around} _ (none_to_read _ _ _)))).run i fuel l)) fuel rest l;
      }

  -- ## Statements

  read_stmts : (count : ℕ) {deep around : ℕ} {one : Reader Stmt} → Agrees deep around one (recs.stmt ∷ []) →
      Agrees deep around (t.read_stmts count one) (replicate count recs.stmt)
  unfolding t.read_stmts
  read_stmts zero h = none_to_read _ _ []ˢ
  read_stmts (suc count) h = child _ h (λ e. last _ (read_stmts count h))

  read_methods : (count : ℕ) {deep around : ℕ} {one : Reader (Span × Fun)} → Agrees deep around one (recs.method ∷ []) →
      Agrees deep around (t.read_methods count one) (replicate count recs.method)
  unfolding t.read_methods
  read_methods zero h = none_to_read _ _ []ᵐ
  read_methods (suc count) h = child _ h (λ m. last _ (read_methods count h))

  maybe_stmt : (b : Bool) {deep around : ℕ} {one : Reader Stmt} → Agrees deep around one (recs.stmt ∷ []) →
      Agrees deep around (t.maybe_stmt b one) (optional b recs.stmt)
  unfolding t.maybe_stmt
  maybe_stmt false h = none_to_read _ _ []ˢ
  maybe_stmt true h = last _ h

  fun_fields : {rest : List Task} (inner : Reader Stmt) (deep around : ℕ) → Agrees deep around inner (recs.stmt ∷ []) → (place : ℕ) →
      Follows rest (Inside deep around rest) (t.fun_fields tree names inner (TreeForm place)) (recs.fun_children tree names (TreeForm place))
  unfolding t.fun_fields
  fun_fields inner deep around h place =
      field _ _ (plain_name tree names place) (λ n.
      field _ _ (plain_u16 tree place) (λ arity.
      field _ _ (plain_many arity (plain_name tree names place)) (λ ns.
      field _ _ (plain_u16 tree place) (λ count. children _ (last _ (read_stmts count h))))))

  -- what reads the children of a record in `around` functions, itself not counted; `free` functions more may be opened
  record AgreeChildren (read : t.Children) (deep around free : ℕ) : Type 0 where
    expr : Agrees deep around read.expr (recs.expr ∷ [])
    superclass : Agrees deep around read.superclass (recs.superclass ∷ [])
    stmt : Agrees deep around read.stmt (recs.stmt ∷ [])
    inner : 0 < free → Agrees deep (suc around) read.inner (recs.stmt ∷ [])
    one_method : Agrees deep around read.one_method (recs.method ∷ [])

  stmt_fields : {rest : List Task} (read : t.Children) (deep around free : ℕ) → AgreeChildren read deep around free → (place : ℕ) (k : t.StmtMark) →
      T (t.may_open k free) → (s : Span) →
      Follows rest (Inside deep (nesting (a_stmt k) around) rest) (t.stmt_fields tree names read (TreeForm place) k s)
      (recs.stmt_children tree names (TreeForm place) k)
  unfolding t.stmt_fields t.block_fields t.class_fields t.expression_fields t.if_fields t.for_fields t.print_fields t.return_fields t.var_stmt_fields t.while_fields t.may_open
  stmt_fields read deep around free h place t.SB y s = field _ _ (plain_u16 tree place) (λ count. children _ (last _ (read_stmts count h.stmt)))
  stmt_fields read deep around free h place t.SC y s =
      field _ _ (plain_name tree names place) (λ n.
      field _ _ (plain_flag tree place) (λ has_super.
      field _ _ (plain_u16 tree place) (λ count.
      children _ (child _ (maybe has_super h.superclass) (λ sup. last _ (read_methods count h.one_method))))))
  stmt_fields read deep around free h place t.SE y s = children _ (last _ h.expr)
  stmt_fields read deep around free h place t.SF y s = put_into _ (fun_fields read.inner deep (suc around) (h.inner (ltb→lt 0 free y)) place)
  stmt_fields read deep around free h place t.SI y s =
      field _ _ (plain_flag tree place) (λ has-else.
      children _ (child _ h.expr (λ e. child _ h.stmt (λ a. last _ (maybe_stmt has-else h.stmt)))))
  stmt_fields read deep around free h place t.SO y s =
      field _ _ (plain_u8 tree place) (λ parts.
      field_next _ _ (plain_need (ltb parts 8) place)
      (children _ (child _ (maybe_stmt (eqb (parts % 2) 1) h.stmt) (λ a.
      child _ (maybe (eqb (parts / 2 % 2) 1) h.expr) (λ c.
      child _ h.stmt (λ b. last _ (maybe (eqb (parts / 4) 1) h.expr)))))))
  stmt_fields read deep around free h place t.SP y s = children _ (last _ h.expr)
  stmt_fields read deep around free h place t.SR y s =
      field _ _ (plain_flag tree place) (λ has_value. children _ (last _ (maybe has_value h.expr)))
  stmt_fields read deep around free h place t.SV y s =
      field _ _ (plain_name tree names place) (λ n.
      field _ _ (plain_flag tree place) (λ has_value. children _ (last _ (maybe has_value h.expr))))
  stmt_fields read deep around free h place t.SW y s = children _ (child _ h.expr (λ e. last _ h.stmt))

  -- where a record may open, it stands in no more functions than may be open; where not, it is one `SF` too many
  free_so : (k : t.StmtMark) (around free : ℕ) → around + free ≡ funs → t.may_open k free ≡ true → nesting (a_stmt k) around ≤ funs
  unfolding t.may_open
  free_so t.SB around free e y = omega arith
  free_so t.SC around free e y = omega arith
  free_so t.SE around free e y = omega arith
  free_so t.SF around free e y = omega (arith, ltb-true 0 free y)
  free_so t.SI around free e y = omega arith
  free_so t.SO around free e y = omega arith
  free_so t.SP around free e y = omega arith
  free_so t.SR around free e y = omega arith
  free_so t.SV around free e y = omega arith
  free_so t.SW around free e y = omega arith

  shut_so : (k : t.StmtMark) (around free : ℕ) → around + free ≡ funs → t.may_open k free ≡ false → funs < nesting (a_stmt k) around
  unfolding t.may_open
  shut_so t.SB around free e y = let z : ◌≡◌ {A = ℕ} 0 1 = cc in absurd (omega arith)
  shut_so t.SC around free e y = let z : ◌≡◌ {A = ℕ} 0 1 = cc in absurd (omega arith)
  shut_so t.SE around free e y = let z : ◌≡◌ {A = ℕ} 0 1 = cc in absurd (omega arith)
  shut_so t.SF around free e y = omega (arith, ltb-false 0 free y)
  shut_so t.SI around free e y = let z : ◌≡◌ {A = ℕ} 0 1 = cc in absurd (omega arith)
  shut_so t.SO around free e y = let z : ◌≡◌ {A = ℕ} 0 1 = cc in absurd (omega arith)
  shut_so t.SP around free e y = let z : ◌≡◌ {A = ℕ} 0 1 = cc in absurd (omega arith)
  shut_so t.SR around free e y = let z : ◌≡◌ {A = ℕ} 0 1 = cc in absurd (omega arith)
  shut_so t.SV around free e y = let z : ◌≡◌ {A = ℕ} 0 1 = cc in absurd (omega arith)
  shut_so t.SW around free e y = let z : ◌≡◌ {A = ℕ} 0 1 = cc in absurd (omega arith)

  -- a record that stands within the depth, and opens if `b`: then `n` reads its fields beside `g`
  may_open : {A : Type 0} (b : Bool) (place deep around : ℕ) → deep ≤ depth → (b ≡ true → around ≤ funs) → (b ≡ false → funs < around) →
      (n : Reader A) (g : Reader (List Child)) {rest : List Task} →
      (b ≡ true → Follows rest (Inside (suc deep) around rest) n g) → (i fuel : ℕ) → length tree ≤ i + fuel →
      Fate (r.◌>>◌ (r.need b (TooManyOpen place)) n i)
      (record { place = place; depth = deep; nesting = around } ∷ if_got (g i) (Inside (suc deep) around rest fuel)) rest i
  unfolding r.◌>>◌ r.go_on r.need
  may_open true place deep around l f s n g h i fuel k =
      behind (record { place = place; depth = deep; nesting = around } ∷ []) (within place deep around l (f refl)) (omega arith) ((h refl).run i fuel k)
  may_open false place deep around l f s n g h i fuel k = too_many place deep around l (s refl)

  mutual
    unfolding t.read_stmt t.stmt_record t.method_record r.◌>>=◌ r.◌>>◌ r.go_on r.here r.refuse

    read_stmt : (left deep around free : ℕ) → deep + left ≡ suc depth → around + free ≡ funs →
        Agrees deep around (t.read_stmt tree names left free) (recs.stmt ∷ [])
    read_stmt zero deep around free e g =
        record {
          run =
              λ at fuel rest l. a_record recs.stmt deep around at a_stmt refl (opens_stmt_mark tree names at) _
              (λ k i fuel rest l. too_deep at deep (nesting (a_stmt k) around) (omega arith)) fuel rest l;
        }
    read_stmt (suc left) deep around free e g =
        record {
          run =
              λ at fuel rest l. a_record recs.stmt deep around at a_stmt refl (opens_stmt_mark tree names at) _
              (λ k i fuel rest l.
              may_open (t.may_open k free) at deep (nesting (a_stmt k) around) (omega arith) (free_so k around free g) (shut_so k around free g) _ _
              (λ y. field _ _ (plain_span tree at) (λ s.
              stmt_fields _ (suc deep) around free
              (record {
                expr = read_expr left (suc deep) around (omega arith) (omega arith);
                superclass = read_superclass left (suc deep) around (omega arith) (omega arith);
                stmt = read_stmt left (suc deep) around free (omega arith) g;
                inner = λ o. read_stmt left (suc deep) (suc around) (free - 1) (omega arith) (omega arith);
                one_method = read_method left (suc deep) around free (omega arith) g;
              })
              at k (rw y tt) s)) i fuel l) fuel rest l;
        }

    read_method : (left deep around free : ℕ) → deep + left ≡ suc depth → around + free ≡ funs →
        Agrees deep around (t.read_method tree names left free) (recs.method ∷ [])
    read_method zero deep around free e g =
        record {
          run =
              λ at fuel rest l. a_record recs.method deep around at (λ _. a_stmt t.SF) refl (opens_mark_is tree at 0x5346) _
              (λ _ i fuel rest l. too_deep at deep (suc around) (omega arith)) fuel rest l;
        }
    read_method (suc left) deep around free e g =
        record {
          run =
              λ at fuel rest l. a_record recs.method deep around at (λ _. a_stmt t.SF) refl (opens_mark_is tree at 0x5346) _
              (λ _ i fuel rest l.
              may_open (ltb 0 free) at deep (suc around) (omega arith) (λ y. omega (arith, ltb-true 0 free y)) (λ y. omega (arith, ltb-false 0 free y)) _ _
              (λ y. field _ _ (plain_span tree at) (λ s.
              put_into _ (fun_fields _ (suc deep) (suc around)
              (read_stmt left (suc deep) (suc around) (free - 1) (omega arith) (omega (arith, ltb-true 0 free y))) at))) i fuel l) fuel rest l;
        }

-- ## The whole file

nothing_opened : (tree : List ℕ) (names fuel at : ℕ) → opened_from tree names fuel [] at ≡ []
nothing_opened tree names zero at = refl
nothing_opened tree names (suc fuel) at = refl

module _ (tree : List ℕ) (depth funs : ℕ) where
  -- nothing is to be read after the statements, so that the number of names no longer matters
  abbrev Ending : Read Stmts → List Opened → (at : ℕ) → Type 0
  Ending o seen at = Fate tree depth funs 0 o seen [] at

  -- the file ends where the statements do
  abbrev to_the_end : Stmts → Reader Stmts
  to_the_end ts = r.◌>>=◌ r.here (λ end. r.◌>>◌ (r.need (eqb end (length tree)) (TreeForm end)) (r.return ts))

  ends : (names at : ℕ) (o : Read Stmts) (seen : List Opened) → Fate tree depth funs names o seen [] at → Ending (r.go_on o to_the_end) seen at
  unfolding r.go_on r.◌>>=◌ r.◌>>◌ r.here r.need r.return
  ends names at o seen (goes_on ts next passed fuel e w s l k) =
      subst⁻¹ (λ (o : Read Stmts). Ending (r.go_on o to_the_end) seen at) e (by_test (eqb next (length tree)))
    where
      whole : seen ≡ passed
      whole = s ∙ ap (λ (xs : List Opened). passed ++ xs) (nothing_opened tree names fuel next) ∙ append-nil passed

      by_test : (b : Bool) → Ending (r.go_on (r.need b (TreeForm next) next) (λ _. r.return ts)) seen at
      by_test true =
          goes_on ts next passed fuel refl w
          (whole ∙ sym (append-nil passed) ∙ ap (λ (xs : List Opened). passed ++ xs) (sym (nothing_opened tree 0 fuel next))) l k
      by_test false = no_form next refl (subst⁻¹ (Clear depth funs) whole w)
  ends names at o seen (no_form place e w) = subst⁻¹ (λ (o : Read Stmts). Ending (r.go_on o to_the_end) seen at) e (no_form place refl w)
  ends names at o seen (passing passed x after e w s b) =
      subst⁻¹ (λ (o : Read Stmts). Ending (r.go_on o to_the_end) seen at) e (passing passed x after refl w s b)

  -- the statements of a file whose header says how many names and how many statements
  abbrev In_file : (fuel : ℕ) → ℕ × ℕ → ℕ → List Opened
  In_file fuel h i = opened_from tree h.0 (length tree) (map (task 1 0) (replicate h.1 recs.stmt)) i

  statements : (names count : ℕ) →
      Follows tree depth funs 0 [] In_file (r.◌>>=◌ (t.read_stmts count (t.read_stmt tree names depth funs)) to_the_end) (r.return (names, count))
  unfolding r.◌>>=◌ r.return
  statements names count =
      record {
        run =
            λ at fuel l. ends names at (t.read_stmts count (t.read_stmt tree names depth funs) at) _
            (subst (λ (tasks : List Task). Fate tree depth funs names (t.read_stmts count (t.read_stmt tree names depth funs) at)
            (opened_from tree names (length tree) tasks at) [] at) (append-nil (map (task 1 0) (replicate count recs.stmt)))
            ((read_stmts tree depth funs names count (read_stmt tree depth funs names depth 1 0 funs (omega arith) (omega arith))).run at (length tree) [] (omega arith)));
      }

  file : Follows tree depth funs 0 [] In_file (t.read_file tree depth funs) (recs.read_header tree)
  unfolding t.read_file
  file =
      field_next tree depth funs 0 _ _ (plain_mark_is tree 0 0x5452)
      (field tree depth funs 0 _ _ (plain_u16 tree 0) (λ names.
      field tree depth funs 0 _ _ (plain_u16 tree 0) (λ count.
      field_next tree depth funs 0 _ _ (plain_need (leb names max_names) 0)
      (field_next tree depth funs 0 _ _ (plain_read_names tree names none) (statements names count)))))

  fate : Ending (t.read_tree tree depth funs) (opened tree) 0
  unfolding t.read_tree
  fate = file.run 0 (length tree) (omega arith)

  -- ## The first record that passes a limit

  none_passing : (xs : List Opened) → Clear depth funs xs → first_passing depth funs xs ≡ none
  none_passing [] h = refl
  none_passing (x ∷ xs) h = rw h.0 (none_passing xs h.1)

  first_is : (passed : List Opened) (x : Opened) (after : List Opened) → Clear depth funs passed → passes depth funs x ≡ true →
      first_passing depth funs (passed ++ (x ∷ after)) ≡ some x
  first_is [] x after h b = rw b
  first_is (y ∷ passed) x after h b = rw h.0 (first_is passed x after h.1 b)

  -- how reading ended, in terms of that record
  pub data Ended : Type 0 where
    no_limit : first_passing depth funs (opened tree) ≡ none → (ts : Stmts) (next : ℕ) → t.read_tree tree depth funs ≡ got ts next → Ended
    no_form_first : first_passing depth funs (opened tree) ≡ none → (place : ℕ) → t.read_tree tree depth funs ≡ bad (TreeForm place) → Ended
    at_limit : (x : Opened) → first_passing depth funs (opened tree) ≡ some x → passes depth funs x ≡ true →
        t.read_tree tree depth funs ≡ bad (refused_for depth funs x) → Ended

  pub ended : Ended
  ended = by_fate fate
    where
      by_fate : Ending (t.read_tree tree depth funs) (opened tree) 0 → Ended
      by_fate (goes_on ts next passed fuel e w s l k) =
          no_limit
          (none_passing (opened tree)
          (subst⁻¹ (Clear depth funs) (s ∙ ap (λ (xs : List Opened). passed ++ xs) (nothing_opened tree 0 fuel next) ∙ append-nil passed) w)) ts next e
      by_fate (no_form place e w) = no_form_first (none_passing (opened tree) w) place e
      by_fate (passing passed x after e w s b) = at_limit x (ap (first_passing depth funs) s ∙ first_is passed x after w b) b e

  -- 4 TreeTooDeep: the first record that passes a limit passes the depth
  pub too_deep_exactly : (at : ℕ) → (t.read_tree tree depth funs ≡ bad (TreeTooDeep at))
      ↔ ((x : Opened) × (first_passing depth funs (opened tree) ≡ some x) × (x.place ≡ at) × (depth < x.depth))
  too_deep_exactly at = (λ e. only ended e, λ p. so ended p.0 p.1 p.2 p.3)
    where
      by_test : (x : Opened) (b : Bool) → leb x.depth depth ≡ b →
          ◌≡◌ {A = Read Stmts} (bad (if b then TooManyOpen x.place else TreeTooDeep x.place)) (bad (TreeTooDeep at)) → (x.place ≡ at) × (depth < x.depth)
      by_test x true e f = let z : ◌≡◌ {A = ℕ} 0 1 = cc in absurd (omega arith)
      by_test x false e f = (cc, leb-false x.depth depth e)

      only : Ended → t.read_tree tree depth funs ≡ bad (TreeTooDeep at) →
          (x : Opened) × (first_passing depth funs (opened tree) ≡ some x) × (x.place ≡ at) × (depth < x.depth)
      only (no_limit n ts next e) f = let z : ◌≡◌ {A = ℕ} 0 1 = cc in absurd (omega arith)
      only (no_form_first n place e) f = let z : ◌≡◌ {A = ℕ} 0 1 = cc in absurd (omega arith)
      only (at_limit x n b e) f =
          let p = by_test x (leb x.depth depth) refl (sym e ∙ f) in
          (x, n, p.0, p.1)

      so : Ended → (x : Opened) → first_passing depth funs (opened tree) ≡ some x → x.place ≡ at → depth < x.depth →
          t.read_tree tree depth funs ≡ bad (TreeTooDeep at)
      so (no_limit n ts next e) x f p l = let z : ◌≡◌ {A = ℕ} 0 1 = cc in absurd (omega arith)
      so (no_form_first n place e) x f p l = let z : ◌≡◌ {A = ℕ} 0 1 = cc in absurd (omega arith)
      so (at_limit y n b e) x f p l =
          let z : y ≡ x = cc in
          let w : leb x.depth depth ≡ false = lt-leb x.depth depth l in
          e ∙ ap (λ (y : Opened). bad (refused_for depth funs y)) z ∙ rw (w, p)

  -- 5 TooManyOpen: the first record that passes a limit is within the depth, and one function too many
  pub too_many_exactly : (at : ℕ) → (t.read_tree tree depth funs ≡ bad (TooManyOpen at))
      ↔ ((x : Opened) × (first_passing depth funs (opened tree) ≡ some x) × (x.place ≡ at) × (x.depth ≤ depth) × (funs < x.nesting))
  too_many_exactly at = (λ e. only ended e, λ p. so ended p.0 p.1 p.2 p.3)
    where
      by_test : (x : Opened) (b : Bool) → leb x.depth depth ≡ b → passes depth funs x ≡ true →
          ◌≡◌ {A = Read Stmts} (bad (if b then TooManyOpen x.place else TreeTooDeep x.place)) (bad (TooManyOpen at)) →
          (x.place ≡ at) × (x.depth ≤ depth) × (funs < x.nesting)
      by_test x true e g f = (cc, leb-true x.depth depth e, ltb-true funs x.nesting (rw e at g))
      by_test x false e g f = let z : ◌≡◌ {A = ℕ} 0 1 = cc in absurd (omega arith)

      only : Ended → t.read_tree tree depth funs ≡ bad (TooManyOpen at) →
          (x : Opened) × (first_passing depth funs (opened tree) ≡ some x) × (x.place ≡ at) × (x.depth ≤ depth) × (funs < x.nesting)
      only (no_limit n ts next e) f = let z : ◌≡◌ {A = ℕ} 0 1 = cc in absurd (omega arith)
      only (no_form_first n place e) f = let z : ◌≡◌ {A = ℕ} 0 1 = cc in absurd (omega arith)
      only (at_limit x n b e) f =
          let p = by_test x (leb x.depth depth) refl b (sym e ∙ f) in
          (x, n, p.0, p.1, p.2)

      so : Ended → (x : Opened) → first_passing depth funs (opened tree) ≡ some x → x.place ≡ at → x.depth ≤ depth →
          t.read_tree tree depth funs ≡ bad (TooManyOpen at)
      so (no_limit n ts next e) x f p l = let z : ◌≡◌ {A = ℕ} 0 1 = cc in absurd (omega arith)
      so (no_form_first n place e) x f p l = let z : ◌≡◌ {A = ℕ} 0 1 = cc in absurd (omega arith)
      so (at_limit y n b e) x f p l =
          let z : y ≡ x = cc in
          let w : leb x.depth depth ≡ true = le-leb x.depth depth l in
          e ∙ ap (λ (y : Opened). bad (refused_for depth funs y)) z ∙ rw (w, p)

  -- 3 TreeForm, and an accepted file: no record passes a limit
  pub form_within : (at : ℕ) → t.read_tree tree depth funs ≡ bad (TreeForm at) → first_passing depth funs (opened tree) ≡ none
  form_within at f = by_end ended
    where
      by_test : (x : Opened) (b : Bool) → ◌≡◌ {A = Read Stmts} (bad (if b then TooManyOpen x.place else TreeTooDeep x.place)) (bad (TreeForm at)) → ⊥
      by_test x true e = let z : ◌≡◌ {A = ℕ} 0 1 = cc in omega arith
      by_test x false e = let z : ◌≡◌ {A = ℕ} 0 1 = cc in omega arith

      by_end : Ended → first_passing depth funs (opened tree) ≡ none
      by_end (no_limit n ts next e) = n
      by_end (no_form_first n place e) = n
      by_end (at_limit x n b e) = absurd (by_test x (leb x.depth depth) (sym e ∙ f))

  pub accepted_within : (ts : Stmts) (next : ℕ) → t.read_tree tree depth funs ≡ got ts next → first_passing depth funs (opened tree) ≡ none
  accepted_within ts next f = by_end ended
    where
      by_end : Ended → first_passing depth funs (opened tree) ≡ none
      by_end (no_limit n ts next e) = n
      by_end (no_form_first n place e) = n
      by_end (at_limit x n b e) = let z : ◌≡◌ {A = ℕ} 0 1 = cc in absurd (omega arith)
