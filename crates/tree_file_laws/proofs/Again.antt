-- The other way: what is read from bytes was written so. Every accepted file is the encoding of the program that it gave, with names that fit, and
-- that program is within the limits that the reader was told. `Was` follows what is left of the bytes, field by field.
use mathlib.Core.Path.{◌≡◌, refl, sym, ap, ◌∙◌, subst, subst⁻¹}
use mathlib.Core.Logic.{◌↔◌}
use mathlib.Core.Bool.{Bool, true, false}
use mathlib.Core.Option.{Option, none, some}
use mathlib.Core.List.{List, ◌∷◌, ◌++◌, append_assoc, append-nil, []}
use Prim.Native.Nat.{ℕ, zero, suc, ◌+◌, ◌-◌, ◌*◌, ◌/◌, ◌%◌, ◌≤◌, ◌<◌}
use native.Mathlib.Omega.{arith}
use lib.ListN.{length, get_or, length-append}
use lib.Seq.{get_or-append_seam}
use lib.Dec.{T, ltb, leb, eqb, ltb→lt, leb→le, eqb→eq}
use Rattle.rules.specs.Base.{le, lookup}
use Rattle.std.specs.Prelude.{if◌then◌else◌}
use Rattle.rules.specs.Limits.{max_names, max_bits}
use Rattle.rules.specs.declared.Span.{Span}
use Rattle.rules.specs.declared.Refusal.{Refusal}
use Rattle.rules.specs.declared.Refusal.TheVariants.{TreeForm, TooManyOpen}
use Rattle.rules.specs.Reader as r
use Rattle.rules.specs.Reader.{Reader, got}
use Rattle.rules.specs.Tree.{Expr, ExprAssign, ExprCall, ExprGet, ExprInfix, Literal, ExprPrefix, ExprSet, ExprSuper, ExprVar, ◌∷ᵉ◌, count_exprs, []ᵉ, []ˢ, []ᵐ}
use Rattle.rules.specs.Tree.{OpInfix, OpPrefix, LitNumber, LitString}
use Rattle.rules.specs.Tree.{Stmt, Stmts, StmtBlock, StmtClass, StmtExpr, StmtFor, StmtFun, StmtIf, StmtPrint, StmtReturn, StmtVar, StmtWhile, ◌∷ˢ◌}
use Rattle.rules.specs.Tree.{Fun, fun, method}
use Rattle.rules.specs.Image.{join}
use Rattle.rules.specs.TreeFile as t
use Rattle.rules.specs.TreeEncode as w
use Rattle.rules.specs.TreeEncode.{byte, opening, bit, has, has_stmt, count_stmts, count_methods, if_some, expr_bytes, exprs_bytes, superclass_bytes}
use Rattle.rules.specs.TreeEncode.{stmt_bytes, stmts_bytes, fun_bytes, methods_bytes, name_bytes, encode}
use Rattle.rules_laws.proofs.Facts.{All, Bytes, get_or_small}
use Rattle.rules_laws.proofs.Lookups as l
use Rattle.rules_laws.proofs.Lookups.{Makes, return, byte_at}
use Rattle.rules_laws.proofs.ReadBack.{Narrow, Left, base, le_parts}
use Rattle.rules_laws.proofs.Trees.{IfSome, option_size}
use Rattle.tree_file_laws.proofs.Fits.{Count, Known, FitsLiteral, FitsExpr, FitsExprs, FitsSuperclass, FitsStmt, FitsStmts, FitsFun, FitsMethods}
use Rattle.tree_file_laws.proofs.Fits.{FitsText, Above, Rising, FitsFile}
use Rattle.tree_file_laws.proofs.Fits.{expr_depth, exprs_depth, stmt_depth, record_depth, fun_depth, methods_depth}
use Rattle.tree_file_laws.proofs.Fits.{stmt_nesting, nested_funs, fun_nesting, methods_nesting}
use Rattle.tree_file_laws.proofs.Names.{names_of}
use Rattle.tree_file_laws.proofs.Texts.{all_differ_so, above_so}
use Rattle.tree_file_laws.proofs.Written.{read_encoded, names_of_encoded}

-- ## What a table has was put so by the encoder

found : {A : Type 0} (put : ℕ → List ℕ) (code : A → List ℕ) (table : List (ℕ × A)) → All (λ (row : ℕ × A). put row.0 ≡ code row.1) table →
    (n : ℕ) (k : A) → lookup n table ≡ some k → put n ≡ code k
unfolding lookup
found put code [] h n k e = let z : ◌≡◌ {A = ℕ} 0 1 = cc in absurd (omega arith)
found {A} put code (row ∷ rows) h n k e = by_test (eqb n row.0) refl e (λ e. found put code rows h.1 n k e)
  where
    by_test : (b : Bool) → eqb n row.0 ≡ b → (if b then some row.1 else lookup n rows) ≡ some k → (lookup n rows ≡ some k → put n ≡ code k) →
        put n ≡ code k
    by_test true t e ih =
        let y : n ≡ row.0 = eqb→eq n row.0 (rw t tt) in
        let z : row.1 ≡ k = cc in
        ap put y ∙ h.0 ∙ ap code z
    by_test false t e ih = ih e

-- a mark's two letters
abbrev letters : ℕ → List ℕ
letters n = n / 256 ∷ n % 256 ∷ []

-- the second letter; the first is E
abbrev expr_letter : t.ExprMark → ℕ
expr_letter t.EA = 0x41
expr_letter t.EC = 0x43
expr_letter t.EG = 0x47
expr_letter t.EI = 0x49
expr_letter t.EL = 0x4C
expr_letter t.EP = 0x50
expr_letter t.ES = 0x53
expr_letter t.EU = 0x55
expr_letter t.EV = 0x56

-- the second letter; the first is S
abbrev stmt_letter : t.StmtMark → ℕ
stmt_letter t.SB = 0x42
stmt_letter t.SC = 0x43
stmt_letter t.SE = 0x45
stmt_letter t.SF = 0x46
stmt_letter t.SI = 0x49
stmt_letter t.SO = 0x4F
stmt_letter t.SP = 0x50
stmt_letter t.SR = 0x52
stmt_letter t.SV = 0x56
stmt_letter t.SW = 0x57

abbrev kind_code : t.LiteralKind → List ℕ
kind_code t.a_false = 0 ∷ []
kind_code t.a_true = 1 ∷ []
kind_code t.a_nil = 2 ∷ []
kind_code t.a_number = 3 ∷ []
kind_code t.a_string = 4 ∷ []

expr_rows : All (λ (row : ℕ × t.ExprMark). letters row.0 ≡ 0x45 ∷ expr_letter row.1 ∷ []) t.expr_marks
unfolding t.expr_marks
expr_rows = (refl, (refl, (refl, (refl, (refl, (refl, (refl, (refl, (refl, tt)))))))))

stmt_rows : All (λ (row : ℕ × t.StmtMark). letters row.0 ≡ 0x53 ∷ stmt_letter row.1 ∷ []) t.stmt_marks
unfolding t.stmt_marks
stmt_rows = (refl, (refl, (refl, (refl, (refl, (refl, (refl, (refl, (refl, (refl, tt))))))))))

kind_rows : All (λ (row : ℕ × t.LiteralKind). byte row.0 ≡ kind_code row.1) t.literal_kinds
unfolding t.literal_kinds byte
kind_rows = (refl, (refl, (refl, (refl, (refl, tt)))))

infix_rows : All (λ (row : ℕ × OpInfix). byte row.0 ≡ byte (w.infix_byte row.1)) t.infix_ops
unfolding t.infix_ops w.infix_byte
infix_rows = (refl, (refl, (refl, (refl, (refl, (refl, (refl, (refl, (refl, (refl, (refl, (refl, tt))))))))))))

prefix_rows : All (λ (row : ℕ × OpPrefix). byte row.0 ≡ byte (w.prefix_byte row.1)) t.prefix_ops
unfolding t.prefix_ops w.prefix_byte
prefix_rows = (refl, (refl, tt))

flag_rows : All (λ (row : ℕ × Bool). byte row.0 ≡ byte (bit row.1)) t.flags
unfolding t.flags bit
flag_rows = (refl, (refl, tt))

-- a bit that is tested is put again
bit_again : (n : ℕ) → n < 2 → bit (eqb n 1) ≡ n
unfolding bit
bit_again zero l = refl
bit_again (suc zero) l = refl
bit_again (suc (suc n)) l = absurd (omega arith)

for_again : (parts : ℕ) → parts < 8 → bit (eqb (parts % 2) 1) + 2 * bit (eqb (parts / 2 % 2) 1) + 4 * bit (eqb (parts / 4) 1) ≡ parts
for_again parts l =
    rw (bit_again (parts % 2) (omega arith), bit_again (parts / 2 % 2) (omega arith), bit_again (parts / 4) (omega arith)) (omega arith)

-- ## What a reader gives, and what it took

first : {A B : Type 0} {m : Reader A} {at : ℕ} {f : A → Reader B} {Q : A → ℕ → Type 0} {S : B → ℕ → Type 0} → Makes m at Q →
    ((a : A) (i : ℕ) → Q a i → Makes (f a) i S) → Makes (r.◌>>=◌ m f) at S
first {m = m} hm hf = l.first m (λ a i e. hf a i (hm.run a i e))

next : {A B : Type 0} {m : Reader A} {at : ℕ} {n : Reader B} {Q : A → ℕ → Type 0} {S : B → ℕ → Type 0} → Makes m at Q →
    ((a : A) (i : ℕ) → Q a i → Makes n i S) → Makes (r.◌>>◌ m n) at S
next {m = m} hm hf = l.next m (λ a i e. hf a i (hm.run a i e))

so : {A : Type 0} {m : Reader A} {at : ℕ} {Q S : A → ℕ → Type 0} → Makes m at Q → ((a : A) (i : ℕ) → Q a i → S a i) → Makes m at S
so hm h = record { run = λ a i e. h a i (hm.run a i e) }

refuse : {A : Type 0} {at : ℕ} {S : A → ℕ → Type 0} (fault : Refusal) → Makes (r.refuse fault) at S
unfolding r.refuse
refuse fault = record { run = λ a i e. let z : ◌≡◌ {A = ℕ} 0 1 = cc in absurd (omega arith) }

checked : {B : Type 0} {at : ℕ} {n : Reader B} {S : B → ℕ → Type 0} (b : Bool) (fault : Refusal) → (T b → Makes n at S) →
    Makes (r.◌>>◌ (r.need b fault) n) at S
unfolding r.◌>>◌ r.go_on r.need
checked true fault h = record { run = λ a i e. (h tt).run a i e }
checked false fault h = record { run = λ a i e. let z : ◌≡◌ {A = ℕ} 0 1 = cc in absurd (omega arith) }

need : {at : ℕ} (b : Bool) (fault : Refusal) → Makes (r.need b fault) at (λ _ i. T b × (i ≡ at))
unfolding r.need r.return
need true fault = return tt (tt, refl)
need false fault = record { run = λ a i e. let z : ◌≡◌ {A = ℕ} 0 1 = cc in absurd (omega arith) }

here : {B : Type 0} {at : ℕ} (f : ℕ → Reader B) {S : B → ℕ → Type 0} → Makes (f at) at S → Makes (r.◌>>=◌ r.here f) at S
unfolding r.◌>>=◌ r.go_on r.here
here f h = record { run = λ a i e. h.run a i e }

one_of : {A : Type 0} {at : ℕ} (fault : Refusal) (table : List (ℕ × A)) (n : ℕ) →
    Makes (r.one_of fault table n) at (λ k i. (lookup n table ≡ some k) × (i ≡ at))
unfolding r.one_of r.known
one_of {A} {at = at} fault table n = by_row (lookup n table) refl
  where
    by_row : (o : Option A) → lookup n table ≡ o → Makes (r.known fault o) at (λ k i. (lookup n table ≡ some k) × (i ≡ at))
    by_row none e = refuse fault
    by_row (some a) e = return a (e, refl)

module _ (tree : List ℕ) (bytes : Bytes tree) where
  -- `bs` was taken from `left` and `after` is left, at the place `next`
  record Was (left bs after : List ℕ) (next : ℕ) : Type 0 where
    split : left ≡ bs ++ after
    leaves : Left tree next after

  -- one part and then another
  both : {left mid after bs cs : List ℕ} {i j : ℕ} → Was left bs mid i → Was mid cs after j → Was left (bs ++ cs) after j
  both {after = after} {bs = bs} {cs = cs} p q =
      record { split = p.split ∙ ap (λ (xs : List ℕ). bs ++ xs) q.split ∙ sym (append_assoc bs cs after); leaves = q.leaves }

  nothing : {left : List ℕ} {i : ℕ} → Left tree i left → Was left [] left i
  nothing p = record { split = refl; leaves = p }

  put_as : {left bs cs after : List ℕ} {i : ℕ} → bs ≡ cs → Was left bs after i → Was left cs after i
  put_as {left = left} {after = after} {i = i} e p = subst (λ (bs : List ℕ). Was left bs after i) e p

  place : {left bs after : List ℕ} {i j : ℕ} → i ≡ j → Was left bs after i → Was left bs after j
  place {left = left} {bs = bs} {after = after} e p = subst (λ (i : ℕ). Was left bs after i) e p

  -- `a` fits, and was put as `f` puts it
  record Took {A : Type 0} (left : List ℕ) (P : A → Type 0) (f : A → List ℕ) (a : A) (next : ℕ) : Type 0 where
    after : List ℕ
    fits : P a
    was : Was left (f a) after next

  took : {A : Type 0} {left after : List ℕ} {P : A → Type 0} {f : A → List ℕ} {a : A} {i : ℕ} → P a → Was left (f a) after i → Took left P f a i
  took {after = after} h p = record { after = after; fits = h; was = p }

  -- so does all that the reader gives
  abbrev Takes : {A : Type 0} → Reader A → (A → Type 0) → (A → List ℕ) → Type 0
  Takes m P f = (at : ℕ) (left : List ℕ) → Left tree at left → Makes m at (Took left P f)

  -- behind what was taken
  on : {A B : Type 0} {m : Reader B} {Q : B → Type 0} {g : B → List ℕ} → Takes m Q g → {left : List ℕ} {P : A → Type 0} {f : A → List ℕ} {a : A} {i : ℕ} →
      (q : Took left P f a i) → Makes m i (Took q.after Q g)
  on h {i = i} q = h i q.after q.was.leaves

  -- ## Fields

  u8 : (fault : Refusal) → Takes (r.u8 tree fault) (λ n. n < 256) byte
  unfolding byte
  u8 fault at left p = record { run = λ b i e. by_left b i left p (byte_at tree fault at b i e) }
    where
      by_left : (b i : ℕ) (left : List ℕ) → Left tree at left → (at < length tree) × (b ≡ get_or tree at 0) × (i ≡ at + 1) →
          Took left (λ n. n < 256) (λ n. n ∷ []) b i
      by_left b i [] p h = absurd (omega (arith, h.0, p.place, ap length p.all_of, length-append p.passed []))
      by_left b i (x ∷ xs) p h =
          let z : get_or tree at 0 ≡ x = rw (p.place, p.all_of) (get_or-append_seam p.passed x xs 0) in
          let y : b ≡ x = h.1 ∙ z in
          record {
            after = xs;
            fits = rw h.1 (get_or_small tree at bytes);
            was =
                record {
                  split = rw y;
                  leaves =
                      record {
                        passed = p.passed ++ (x ∷ []);
                        all_of = p.all_of ∙ sym (append_assoc p.passed (x ∷ []) xs);
                        place = omega (arith, h.2, p.place, length-append p.passed (x ∷ []));
                      };
                };
          }

  u8_le : (fault : Refusal) → Takes (r.u8 tree fault) (λ n. n < 256) (le 1)
  unfolding byte le
  u8_le fault at left p =
      so (u8 fault at left p) (λ n i q. took q.fits (put_as (let z : n % 256 ≡ n = omega (arith, q.fits) in rw z) q.was))

  -- twice as wide
  wider : {m : Reader ℕ} (width : ℕ) → Takes m (λ n. n < base width) (le width) → (bound : ℕ) →
      ((a b : ℕ) → a < base width → b < base width → a + base width * b < bound) →
      Takes (r.◌>>=◌ m (λ a. r.◌>>=◌ m (λ b. r.return (a + base width * b)))) (λ n. n < bound) (le (width + width))
  wider width h bound f at left p =
      first (h at left p) (λ a i q.
      first (on h q) (λ b j o.
      return (a + base width * b) (took (f a b q.fits o.fits) (put_as (le_parts width width a b q.fits) (both q.was o.was)))))

  u16 : (fault : Refusal) → Takes (r.u16 tree fault) Count (le 2)
  unfolding r.u16
  u16 fault = wider 1 (u8_le fault) 65_536 (λ a b p q. omega arith)

  u32 : (fault : Refusal) → Takes (r.u32 tree fault) (λ n. n < 4_294_967_296) (le 4)
  unfolding r.u32
  u32 fault = wider 2 (u16 fault) 4_294_967_296 (λ a b p q. omega arith)

  u64 : (fault : Refusal) → Takes (r.u64 tree fault) (λ n. n < 18_446_744_073_709_551_616) (le 8)
  unfolding r.u64
  u64 fault = wider 4 (u32 fault) 18_446_744_073_709_551_616 (λ a b p q. omega arith)

  span : (fault : Refusal) → Takes (r.span tree fault) Narrow (λ s. le 4 s.start ++ le 4 s.end)
  unfolding r.span
  span fault at left p =
      first (u32 fault at left p) (λ a i q.
      first (on (u32 fault) q) (λ b j o. return _ (took (record { start = q.fits; end = o.fits }) (both q.was o.was))))

  mark : (fault : Refusal) → Takes (r.mark tree fault) (λ _. Unit {0}) letters
  unfolding r.mark byte
  mark fault at left p =
      first (u8 fault at left p) (λ a i q.
      first (on (u8 fault) q) (λ b j o. return (256 * a + b) (took tt (put_as (two a b o.fits) (both q.was o.was)))))
    where
      two : (a b : ℕ) → b < 256 → a ∷ b ∷ [] ≡ letters (256 * a + b)
      two a b l =
          let y : (256 * a + b) / 256 ≡ a = omega arith in
          let z : (256 * a + b) % 256 ≡ b = omega arith in
          rw (y, z)

  mark_is : (fault : Refusal) (m : ℕ) → Takes (r.mark_is tree fault m) (λ _. Unit {0}) (λ _. letters m)
  unfolding r.mark_is
  mark_is fault m at left p =
      first (mark fault at left p) (λ n i q. so (need (eqb n m) fault)
      (λ _ j o. took tt (place (sym o.1) (put_as (ap letters (eqb→eq n m o.0)) q.was))))

  -- a mark or a byte that a table has
  marked : {A : Type 0} (table : List (ℕ × A)) (code : A → List ℕ) → All (λ (row : ℕ × A). letters row.0 ≡ code row.1) table → (fault : Refusal) →
      Takes (r.◌>>=◌ (r.mark tree fault) (r.one_of fault table)) (λ _. Unit {0}) code
  marked table code rows fault at left p =
      first (mark fault at left p) (λ n i q. so (one_of fault table n)
      (λ k j o. took tt (place (sym o.1) (put_as (found letters code table rows n k o.0) q.was))))

  kind : {A : Type 0} (table : List (ℕ × A)) (code : A → List ℕ) → All (λ (row : ℕ × A). byte row.0 ≡ code row.1) table → (fault : Refusal) →
      Takes (r.◌>>=◌ (r.u8 tree fault) (r.one_of fault table)) (λ _. Unit {0}) code
  kind table code rows fault at left p =
      first (u8 fault at left p) (λ n i q. so (one_of fault table n)
      (λ k j o. took tt (place (sym o.1) (put_as (found byte code table rows n k o.0) q.was))))

  flag : (fault : Refusal) → Takes (t.flag tree fault) (λ _. Unit {0}) (λ b. byte (bit b))
  unfolding t.flag
  flag = kind t.flags (λ b. byte (bit b)) flag_rows

  -- ## A child that a flag announces: it fits, and is at most `deep` deep by the count `depth-of`

  maybe : {A : Type 0} (b : Bool) {one : Reader A} (P : A → Type 0) (depth-of : A → ℕ) (deep : ℕ) (f : A → List ℕ) →
      Takes one (λ (a : A). P a × (depth-of a ≤ deep)) f →
      Takes (t.maybe b one) (λ (v : Option A). (has v ≡ b) × IfSome P v × (option_size depth-of v ≤ deep)) (if_some f)
  unfolding t.maybe has if_some
  maybe false P depth-of deep f h at left p = return none (took (refl, tt, omega arith) (nothing p))
  maybe true P depth-of deep f h at left p =
      first (h at left p) (λ a i q. return (some a) (took (refl, q.fits.0, q.fits.1) q.was))

  module _ (names : ℕ) where
    name : (fault : Refusal) → Takes (t.name tree names fault) (Known names) (le 2)
    unfolding t.name
    name fault at left p =
        first (u16 fault at left p) (λ n i q. checked (ltb n (4 + names)) fault (λ y. return n (took (ltb→lt n (4 + names) y) q.was)))

    params : (count : ℕ) (fault : Refusal) →
        Takes (r.many count (t.name tree names fault)) (λ (ns : List ℕ). (length ns ≡ count) × All (Known names) ns) (join (le 2))
    unfolding r.many join
    params zero fault at left p = return [] (took (refl, tt) (nothing p))
    params (suc count) fault at left p =
        first (name fault at left p) (λ n i q.
        first (on (params count fault) q) (λ ns j o.
        return (n ∷ ns) (took (ap suc o.fits.0, (q.fits, o.fits.1)) (both q.was o.was))))

    -- what a record opened with: its mark's letters and its span
    opened : {whole mid left : List ℕ} {i j : ℕ} (high low : ℕ) (s : Span) → Was whole (high ∷ low ∷ []) mid i →
        Was mid (le 4 s.start ++ le 4 s.end) left j → Was whole (opening high low s) left j
    unfolding opening
    opened high low s p q = put_as (sym (append_assoc (high ∷ low ∷ []) (le 4 s.start) (le 4 s.end))) (both p q)

    -- ## Expressions

    abbrev InExpr : (depth : ℕ) → Expr → Type 0
    InExpr depth e = FitsExpr names e × (expr_depth e ≤ depth)

    read_exprs : (count depth : ℕ) {one : Reader Expr} → Takes one (InExpr depth) expr_bytes →
        Takes (t.read_exprs count one) (λ es. (count_exprs es ≡ count) × FitsExprs names es × (exprs_depth es ≤ depth)) exprs_bytes
    unfolding t.read_exprs exprs_bytes count_exprs
    read_exprs zero depth h at left p = return []ᵉ (took (refl, tt, omega arith) (nothing p))
    read_exprs (suc count) depth h at left p =
        first (h at left p) (λ e i q.
        first (on (read_exprs count depth h) q) (λ es j o.
        return (e ∷ᵉ es)
        (took (ap suc o.fits.0, (q.fits.0, o.fits.1), omega (arith, q.fits.1, o.fits.2)) (both q.was o.was))))

    literal_of : (fault : Refusal) (k : t.LiteralKind) (at : ℕ) (whole left : List ℕ) (p : Was whole (kind_code k) left at) →
        Makes (t.literal_of tree names fault k) at (Took whole (FitsLiteral names) w.literal_bytes)
    unfolding t.literal_of w.literal_bytes byte
    literal_of fault t.a_false at whole left p = return _ (took tt p)
    literal_of fault t.a_true at whole left p = return _ (took tt p)
    literal_of fault t.a_nil at whole left p = return _ (took tt p)
    literal_of fault t.a_number at whole left p =
        first (u64 fault at left p.leaves)
        (λ bits i q. checked (leb bits max_bits) fault (λ y. return (LitNumber bits) (took (leb→le bits max_bits y) (both p q.was))))
    literal_of fault t.a_string at whole left p =
        first (name fault at left p.leaves) (λ n i q. return (LitString n) (took q.fits (both p q.was)))

    -- what follows the span, where `o` is what stands before it
    expr_fields : (expr : Reader Expr) (depth : ℕ) → Takes expr (InExpr depth) expr_bytes → (fault : Refusal) (k : t.ExprMark) (s : Span) → Narrow s →
        (whole left : List ℕ) (at : ℕ) (o : Was whole (opening 0x45 (expr_letter k) s) left at) →
        Makes (t.expr_fields tree names expr fault k s) at (Took whole (InExpr (suc depth)) expr_bytes)
    unfolding t.expr_fields t.assign_fields t.call_fields t.get_fields t.infix_fields t.literal_fields t.prefix_fields t.set_fields t.super_fields t.var_fields expr_bytes
    expr_fields expr depth h fault t.EA s n whole left at o =
        first (name fault at left o.leaves) (λ m i p.
        first (on h p) (λ v j q.
        return (ExprAssign s m v) (took ((n, p.fits, q.fits.0), omega (arith, q.fits.1)) (both (both o p.was) q.was))))
    expr_fields expr depth h fault t.EC s n whole left at o =
        first (u16 fault at left o.leaves) (λ count i p.
        first (on h p) (λ f j q.
        first (on (read_exprs count depth h) q) (λ es k u.
        return (ExprCall s f es)
        (took ((n, omega (arith, p.fits, u.fits.0), q.fits.0, u.fits.1), omega (arith, q.fits.1, u.fits.2))
        (both (both (both o (put_as (ap (le 2) (sym u.fits.0)) p.was)) q.was) u.was)))))
    expr_fields expr depth h fault t.EG s n whole left at o =
        first (name fault at left o.leaves) (λ m i p.
        first (on h p) (λ v j q.
        return (ExprGet s m v) (took ((n, p.fits, q.fits.0), omega (arith, q.fits.1)) (both (both o p.was) q.was))))
    expr_fields expr depth h fault t.EI s n whole left at o =
        first (kind t.infix_ops (λ op. byte (w.infix_byte op)) infix_rows fault at left o.leaves) (λ op i p.
        first (on h p) (λ a j q.
        first (on h q) (λ b k u.
        return (ExprInfix s op a b)
        (took ((n, q.fits.0, u.fits.0), omega (arith, q.fits.1, u.fits.1)) (both (both (both o p.was) q.was) u.was)))))
    expr_fields expr depth h fault t.EL s n whole left at o =
        first (kind t.literal_kinds kind_code kind_rows fault at left o.leaves) (λ k i p.
        first (literal_of fault k i left p.after p.was) (λ v j q.
        return (Literal s v) (took ((n, q.fits), omega arith) (both o q.was))))
    expr_fields expr depth h fault t.EP s n whole left at o =
        first (kind t.prefix_ops (λ op. byte (w.prefix_byte op)) prefix_rows fault at left o.leaves) (λ op i p.
        first (on h p) (λ a j q.
        return (ExprPrefix s op a) (took ((n, q.fits.0), omega (arith, q.fits.1)) (both (both o p.was) q.was))))
    expr_fields expr depth h fault t.ES s n whole left at o =
        first (name fault at left o.leaves) (λ m i p.
        first (on h p) (λ v j q.
        first (on h q) (λ e k u.
        return (ExprSet s m v e)
        (took ((n, p.fits, q.fits.0, u.fits.0), omega (arith, q.fits.1, u.fits.1)) (both (both (both o p.was) q.was) u.was)))))
    expr_fields expr depth h fault t.EU s n whole left at o =
        first (name fault at left o.leaves) (λ m i p. return (ExprSuper s m) (took ((n, p.fits), omega arith) (both o p.was)))
    expr_fields expr depth h fault t.EV s n whole left at o =
        first (name fault at left o.leaves) (λ m i p. return (ExprVar s m) (took ((n, p.fits), omega arith) (both o p.was)))

    read_expr : (depth : ℕ) → Takes (t.read_expr tree names depth) (InExpr depth) expr_bytes
    unfolding t.read_expr t.expr_mark t.expr_record
    read_expr zero at left p = here _ (first (marked t.expr_marks _ expr_rows (TreeForm at) at left p) (λ k j q. refuse _))
    read_expr (suc depth) at left p =
        here _ (first (marked t.expr_marks _ expr_rows (TreeForm at) at left p) (λ k i q.
        first (on (span (TreeForm at)) q) (λ s j u.
        expr_fields (t.read_expr tree names depth) depth (read_expr depth) (TreeForm at) k s u.fits left u.after j
        (opened 0x45 (expr_letter k) s q.was u.was))))

    read_superclass : (depth : ℕ) → Takes (t.read_superclass tree names depth) (λ sup. FitsSuperclass names sup × (1 ≤ depth)) superclass_bytes
    unfolding t.read_superclass superclass_bytes
    read_superclass zero at left p = here _ (next (mark_is (TreeForm at) 0x4556 at left p) (λ _ j q. refuse _))
    read_superclass (suc depth) at left p =
        here _ (next (mark_is (TreeForm at) 0x4556 at left p) (λ _ i q.
        first (on (span (TreeForm at)) q) (λ s j u.
        first (on (name (TreeForm at)) u) (λ n k v.
        return _ (took (record { span = u.fits; name = v.fits }, omega arith) (both (opened 0x45 0x56 s q.was u.was) v.was))))))

    -- ## Statements

    abbrev InStmt : (depth funs : ℕ) → Stmt → Type 0
    InStmt depth funs e = FitsStmt names e × (stmt_depth e ≤ depth) × (stmt_nesting e ≤ funs)

    abbrev InStmts : (depth funs : ℕ) → Stmts → Type 0
    InStmts depth funs ts = FitsStmts names ts × (record_depth ts ≤ depth) × (nested_funs ts ≤ funs)

    abbrev InFun : (depth funs : ℕ) → Fun → Type 0
    InFun depth funs f = FitsFun names f × (fun_depth f ≤ depth) × (fun_nesting f ≤ funs)

    -- a method's record: its own `SF` counts
    abbrev InMethod : (depth funs : ℕ) → Span × Fun → Type 0
    InMethod depth funs m = Narrow m.0 × FitsFun names m.1 × (suc (fun_depth m.1) ≤ depth) × (suc (fun_nesting m.1) ≤ funs)

    abbrev method_bytes : Span × Fun → List ℕ
    method_bytes m = opening 0x53 0x46 m.0 ++ fun_bytes m.1

    read_stmts : (count depth funs : ℕ) {one : Reader Stmt} → Takes one (InStmt depth funs) stmt_bytes →
        Takes (t.read_stmts count one) (λ ts. (count_stmts ts ≡ count) × InStmts depth funs ts) stmts_bytes
    unfolding t.read_stmts stmts_bytes count_stmts
    read_stmts zero depth funs h at left p = return []ˢ (took (refl, (tt, omega arith, omega arith)) (nothing p))
    read_stmts (suc count) depth funs h at left p =
        first (h at left p) (λ e i q.
        first (on (read_stmts count depth funs h) q) (λ ts j o.
        return (e ∷ˢ ts)
        (took
        (ap suc o.fits.0, ((q.fits.0, o.fits.1.0), omega (arith, q.fits.1, o.fits.1.1), omega (arith, q.fits.2, o.fits.1.2)))
        (both q.was o.was))))

    maybe_stmt : (b : Bool) (depth funs : ℕ) {one : Reader Stmt} → Takes one (InStmt depth funs) stmt_bytes →
        Takes (t.maybe_stmt b one) (λ ts. (has_stmt ts ≡ b) × (count_stmts ts ≤ 1) × InStmts depth funs ts) stmts_bytes
    unfolding t.maybe_stmt stmts_bytes count_stmts has_stmt
    maybe_stmt false depth funs h at left p = return []ˢ (took (refl, omega arith, (tt, omega arith, omega arith)) (nothing p))
    maybe_stmt true depth funs h at left p =
        first (h at left p) (λ e i q.
        return (e ∷ˢ []ˢ)
        (took (refl, omega arith, ((q.fits.0, tt), omega (arith, q.fits.1), omega (arith, q.fits.2)))
        (put_as (sym (append-nil (stmt_bytes e))) q.was)))

    read_methods : (count depth funs : ℕ) {one : Reader (Span × Fun)} → Takes one (InMethod depth funs) method_bytes →
        Takes (t.read_methods count one)
        (λ ms. (count_methods ms ≡ count) × FitsMethods names ms × (methods_depth ms ≤ depth) × (methods_nesting ms ≤ funs)) methods_bytes
    unfolding t.read_methods methods_bytes count_methods
    read_methods zero depth funs h at left p = return []ᵐ (took (refl, tt, omega arith, omega arith) (nothing p))
    read_methods (suc count) depth funs h at left p =
        first (h at left p) (λ m i q.
        first (on (read_methods count depth funs h) q) (λ ms j o.
        return (method m.0 m.1 ms)
        (took
        (ap suc o.fits.0, (q.fits.0, q.fits.1, o.fits.1), omega (arith, q.fits.2, o.fits.2), omega (arith, q.fits.3, o.fits.3))
        (both q.was o.was))))

    fun_fields : (inner : Reader Stmt) (depth funs : ℕ) → Takes inner (InStmt depth funs) stmt_bytes → (fault : Refusal) →
        Takes (t.fun_fields tree names inner fault) (InFun depth funs) fun_bytes
    unfolding t.fun_fields fun_bytes
    fun_fields inner depth funs h fault at left p =
        first (name fault at left p) (λ m i q.
        first (on (u16 fault) q) (λ arity j o.
        first (on (params arity fault) o) (λ ns k u.
        first (on (u16 fault) u) (λ count l v.
        first (on (read_stmts count depth funs h) v) (λ body a x.
        return (fun m ns body)
        (took
        ((q.fits, omega (arith, o.fits, u.fits.0), u.fits.1, omega (arith, v.fits, x.fits.0), x.fits.1.0), x.fits.1.1, x.fits.1.2)
        (both (both (both (both q.was (put_as (ap (le 2) (sym u.fits.0)) o.was)) u.was)
        (put_as (ap (le 2) (sym x.fits.0)) v.was)) x.was)))))))

    -- what reads the children, where `depth` records and `funs` functions more may be opened
    record TakeChildren (read : t.Children) (depth funs : ℕ) : Type 0 where
      expr : Takes read.expr (InExpr depth) expr_bytes
      superclass : Takes read.superclass (λ sup. FitsSuperclass names sup × (1 ≤ depth)) superclass_bytes
      stmt : Takes read.stmt (InStmt depth funs) stmt_bytes
      inner : Takes read.inner (InStmt depth (funs - 1)) stmt_bytes
      one_method : Takes read.one_method (InMethod depth funs) method_bytes

    stmt_fields : (read : t.Children) (depth funs : ℕ) → TakeChildren read depth funs → (fault : Refusal) (k : t.StmtMark) → T (t.may_open k funs) →
        (s : Span) → Narrow s → (whole left : List ℕ) (at : ℕ) (o : Was whole (opening 0x53 (stmt_letter k) s) left at) →
        Makes (t.stmt_fields tree names read fault k s) at (Took whole (InStmt (suc depth) funs) stmt_bytes)
    unfolding t.stmt_fields t.block_fields t.class_fields t.expression_fields t.if_fields t.for_fields t.print_fields t.return_fields t.var_stmt_fields t.while_fields t.may_open stmt_bytes
    stmt_fields read depth funs h fault t.SB y s n whole left at o =
        first (u16 fault at left o.leaves) (λ count i p.
        first (on (read_stmts count depth funs h.stmt) p) (λ ts j q.
        return (StmtBlock s ts)
        (took ((n, omega (arith, p.fits, q.fits.0), q.fits.1.0), omega (arith, q.fits.1.1), q.fits.1.2)
        (both (both o (put_as (ap (le 2) (sym q.fits.0)) p.was)) q.was))))
    stmt_fields read depth funs h fault t.SC y s n whole left at o =
        first (name fault at left o.leaves) (λ m i p.
        first (on (flag fault) p) (λ has_super j q.
        first (on (u16 fault) q) (λ count k u.
        first (on (maybe has_super (FitsSuperclass names) (λ _. 1) depth superclass_bytes h.superclass) u) (λ sup a v.
        first (on (read_methods count depth funs h.one_method) v) (λ ms b x.
        return (StmtClass s m sup ms)
        (took
        ((n, p.fits, omega (arith, u.fits, x.fits.0), v.fits.1, x.fits.1), omega (arith, v.fits.2, x.fits.2), x.fits.3)
        (both (both (both (both (both o p.was) (put_as (ap (λ (b : Bool). byte (bit b)) (sym v.fits.0)) q.was))
        (put_as (ap (le 2) (sym x.fits.0)) u.was)) v.was) x.was)))))))
    stmt_fields read depth funs h fault t.SE y s n whole left at o =
        first (h.expr at left o.leaves) (λ e i p.
        return (StmtExpr s e) (took ((n, p.fits.0), omega (arith, p.fits.1), omega arith) (both o p.was)))
    stmt_fields read depth funs h fault t.SF y s n whole left at o =
        first (fun_fields read.inner depth (funs - 1) h.inner fault at left o.leaves) (λ f i p.
        return (StmtFun s f)
        (took ((n, p.fits.0), omega (arith, p.fits.1), omega (arith, p.fits.2, ltb→lt 0 funs y)) (both o p.was)))
    stmt_fields read depth funs h fault t.SI y s n whole left at o =
        first (flag fault at left o.leaves) (λ has-else i p.
        first (on h.expr p) (λ e j q.
        first (on h.stmt q) (λ a k u.
        first (on (maybe_stmt has-else depth funs h.stmt) u) (λ b l v.
        return (StmtIf s e a b)
        (took
        ((n, v.fits.1, q.fits.0, u.fits.0, v.fits.2.0), omega (arith, q.fits.1, u.fits.1, v.fits.2.1), omega (arith, u.fits.2, v.fits.2.2))
        (both (both (both (both o (put_as (ap (λ (b : Bool). byte (bit b)) (sym v.fits.0)) p.was)) q.was) u.was) v.was))))))
    stmt_fields read depth funs h fault t.SO y s n whole left at o =
        first (u8 fault at left o.leaves) (λ parts i p.
        checked (ltb parts 8) fault (λ small.
        first (on (maybe_stmt (eqb (parts % 2) 1) depth funs h.stmt) p) (λ a j q.
        first (on (maybe (eqb (parts / 2 % 2) 1) (FitsExpr names) expr_depth depth expr_bytes h.expr) q) (λ c k u.
        first (on h.stmt u) (λ b l v.
        first (on (maybe (eqb (parts / 4) 1) (FitsExpr names) expr_depth depth expr_bytes h.expr) v) (λ d m x.
        return (StmtFor s a c b d)
        (took (
          (n, q.fits.1, q.fits.2.0, u.fits.1, v.fits.0, x.fits.1),
          omega (arith, q.fits.2.1, u.fits.2, v.fits.1, x.fits.2),
          omega (arith, q.fits.2.2, v.fits.2),
        )
        (both (both (both (both (both o
        (put_as (ap byte (again parts (ltb→lt parts 8 small) (has_stmt a) (has c) (has d) q.fits.0 u.fits.0 x.fits.0)) p.was))
        q.was) u.was) v.was) x.was))))))))
      where
        again : (parts : ℕ) → parts < 8 → (a b c : Bool) → a ≡ eqb (parts % 2) 1 → b ≡ eqb (parts / 2 % 2) 1 → c ≡ eqb (parts / 4) 1 →
            parts ≡ bit a + 2 * bit b + 4 * bit c
        again parts l a b c e f g = rw (e, f, g) (sym (for_again parts l))
    stmt_fields read depth funs h fault t.SP y s n whole left at o =
        first (h.expr at left o.leaves) (λ e i p.
        return (StmtPrint s e) (took ((n, p.fits.0), omega (arith, p.fits.1), omega arith) (both o p.was)))
    stmt_fields read depth funs h fault t.SR y s n whole left at o =
        first (flag fault at left o.leaves) (λ has_value i p.
        first (on (maybe has_value (FitsExpr names) expr_depth depth expr_bytes h.expr) p) (λ v j q.
        return (StmtReturn s v)
        (took ((n, q.fits.1), omega (arith, q.fits.2), omega arith)
        (both (both o (put_as (ap (λ (b : Bool). byte (bit b)) (sym q.fits.0)) p.was)) q.was))))
    stmt_fields read depth funs h fault t.SV y s n whole left at o =
        first (name fault at left o.leaves) (λ m i p.
        first (on (flag fault) p) (λ has_value j q.
        first (on (maybe has_value (FitsExpr names) expr_depth depth expr_bytes h.expr) q) (λ v k u.
        return (StmtVar s m v)
        (took ((n, p.fits, u.fits.1), omega (arith, u.fits.2), omega arith)
        (both (both (both o p.was) (put_as (ap (λ (b : Bool). byte (bit b)) (sym u.fits.0)) q.was)) u.was)))))
    stmt_fields read depth funs h fault t.SW y s n whole left at o =
        first (h.expr at left o.leaves) (λ e i p.
        first (on h.stmt p) (λ b j q.
        return (StmtWhile s e b)
        (took ((n, p.fits.0, q.fits.0), omega (arith, p.fits.1, q.fits.1), q.fits.2) (both (both o p.was) q.was))))

    mutual
      unfolding t.read_stmt t.stmt_mark t.stmt_record t.method_record

      read_stmt : (depth funs : ℕ) → Takes (t.read_stmt tree names depth funs) (InStmt depth funs) stmt_bytes
      read_stmt zero funs at left p = here _ (first (marked t.stmt_marks _ stmt_rows (TreeForm at) at left p) (λ k j q. refuse _))
      read_stmt (suc depth) funs at left p =
          here _ (first (marked t.stmt_marks _ stmt_rows (TreeForm at) at left p) (λ k i q.
          checked (t.may_open k funs) (TooManyOpen at) (λ y.
          first (on (span (TreeForm at)) q) (λ s j u.
          stmt_fields _ depth funs
          (record {
            expr = read_expr depth;
            superclass = read_superclass depth;
            stmt = λ at left p. read_stmt depth funs at left p;
            inner = λ at left p. read_stmt depth (funs - 1) at left p;
            one_method = λ at left p. read_method depth funs at left p;
          })
          (TreeForm at) k y s u.fits left u.after j (opened 0x53 (stmt_letter k) s q.was u.was)))))

      read_method : (depth funs : ℕ) → Takes (t.read_method tree names depth funs) (InMethod depth funs) method_bytes
      read_method zero funs at left p = here _ (next (mark_is (TreeForm at) 0x5346 at left p) (λ _ j q. refuse _))
      read_method (suc depth) funs at left p =
          here _ (next (mark_is (TreeForm at) 0x5346 at left p) (λ _ i q.
          checked (ltb 0 funs) (TooManyOpen at) (λ y.
          first (on (span (TreeForm at)) q) (λ s j u.
          first (on (fun_fields _ depth (funs - 1) (λ at left p. read_stmt depth (funs - 1) at left p) (TreeForm at)) u) (λ f k v.
          return (s, f)
          (took (u.fits, v.fits.0, omega (arith, v.fits.1), omega (arith, v.fits.2, ltb→lt 0 funs y))
          (both (opened 0x53 0x46 s q.was u.was) v.was)))))))

  -- ## Names and the whole file

  text_bytes : (count : ℕ) (fault : Refusal) → Takes (r.many count (r.u8 tree fault)) (λ (bs : List ℕ). (length bs ≡ count) × Bytes bs) (λ bs. bs)
  unfolding r.many byte
  text_bytes zero fault at left p = return [] (took (refl, tt) (nothing p))
  text_bytes (suc count) fault at left p =
      first (u8 fault at left p) (λ b i q.
      first (on (text_bytes count fault) q) (λ bs j o.
      return (b ∷ bs) (took (ap suc o.fits.0, (q.fits, o.fits.1)) (both q.was o.was))))

  read_name : (last : Option (List ℕ)) → Takes (t.read_name tree last) (λ text. FitsText text × Above last text) name_bytes
  unfolding t.read_name name_bytes
  read_name last at left p =
      here _ (next (mark_is (TreeForm at) 0x4E4D at left p) (λ _ i q.
      first (on (u16 (TreeForm at)) q) (λ size j o.
      first (on (text_bytes size (TreeForm at)) o) (λ text k u.
      checked (t.rises tree last text) (TreeForm at) (λ y.
      checked _ (TreeForm at) (λ z.
      return text
      (took
      (record { size = omega (arith, o.fits, u.fits.0); bytes = u.fits.1; own = all_differ_so tree text t.fixed_names z }, above_so tree last text y)
      (both (both q.was (put_as (ap (le 2) (sym u.fits.0)) o.was)) u.was))))))))

  -- the names that stand there
  record Names (count : ℕ) (last : Option (List ℕ)) (left : List ℕ) (next : ℕ) : Type 0 where
    texts : List (List ℕ)
    after : List ℕ
    count_is : length texts ≡ count
    each : All FitsText texts
    rising : Rising last texts
    was : Was left (join name_bytes texts) after next

  read_names : (count : ℕ) (last : Option (List ℕ)) (at : ℕ) (left : List ℕ) → Left tree at left →
      Makes (t.read_names tree count last) at (λ _ i. Names count last left i)
  unfolding t.read_names join
  read_names zero last at left p = return tt (record { texts = []; after = left; count_is = refl; each = tt; rising = tt; was = nothing p })
  read_names (suc count) last at left p =
      first (read_name last at left p) (λ text i q.
      so (read_names count (some text) i q.after q.was.leaves) (λ _ j o.
      record {
        texts = text ∷ o.texts;
        after = o.after;
        count_is = ap suc o.count_is;
        each = (q.fits.0, o.each);
        rising = (q.fits.1, o.rising);
        was = both q.was o.was;
      }))

-- with some names, the file is what the encoder writes for the program
record EncodedSo (tree : List ℕ) (depth funs : ℕ) (stmts : Stmts) (next : ℕ) : Type 0 where
  names : List (List ℕ)
  fits : FitsFile depth funs names stmts
  again : encode names stmts ≡ tree
  end : next ≡ length tree

module _ (tree : List ℕ) (bytes : Bytes tree) where
  read_file : (depth funs : ℕ) → Makes (t.read_file tree depth funs) 0 (EncodedSo tree depth funs)
  unfolding t.read_file encode
  read_file depth funs =
      next (mark_is tree bytes (TreeForm 0) 0x5452 0 tree (record { passed = []; all_of = refl; place = refl })) (λ _ i p.
      first (on tree bytes (u16 tree bytes (TreeForm 0)) p) (λ names j q.
      first (on tree bytes (u16 tree bytes (TreeForm 0)) q) (λ count k o.
      checked (leb names max_names) (TreeForm 0) (λ few.
      next (read_names tree bytes names none k o.after o.was.leaves) (λ _ m u.
      first (read_stmts tree bytes names count depth funs (read_stmt tree bytes names depth funs) m u.after u.was.leaves) (λ ts n v.
      here _ (checked (eqb n (length tree)) (TreeForm n) (λ y.
      return ts
      (record {
        names = u.texts;
        fits =
            record {
              few_names = omega (arith, leb→le names max_names few, u.count_is);
              each_name = u.each;
              rising = u.rising;
              count = omega (arith, o.fits, v.fits.0);
              each_stmt = subst⁻¹ (λ (names : ℕ). FitsStmts names ts) u.count_is v.fits.1.0;
              within_depth = v.fits.1.1;
              within_funs = v.fits.1.2;
            };
        again =
            whole u.texts ts
            (both tree bytes (both tree bytes (both tree bytes (both tree bytes p.was (put_as tree bytes (ap (le 2) (sym u.count_is)) q.was))
            (put_as tree bytes (ap (le 2) (sym v.fits.0)) o.was)) u.was) v.was)
            (eqb→eq n (length tree) y);
        end = eqb→eq n (length tree) y;
      })))))))))
    where
      nothing_left : (passed after : List ℕ) → length passed ≡ length (passed ++ after) → after ≡ []
      nothing_left passed [] e = refl
      nothing_left passed (x ∷ xs) e = absurd (omega (arith, length-append passed (x ∷ xs)))

      -- nothing is left where the place is the file's end
      whole : (names : List (List ℕ)) (ts : Stmts) {after : List ℕ} {n : ℕ} →
          Was tree bytes tree (((((0x54 ∷ 0x52 ∷ []) ++ le 2 (length names)) ++ le 2 (count_stmts ts)) ++ join name_bytes names) ++ stmts_bytes ts) after n →
          n ≡ length tree → encode names ts ≡ tree
      whole names ts {after = after} {n = n} p e =
          let l = p.leaves in
          let z : after ≡ [] = nothing_left l.passed after (sym l.place ∙ e ∙ ap length l.all_of) in
          sym (p.split ∙ ap (λ (xs : List ℕ). encode names ts ++ xs) z ∙ append-nil (encode names ts))

-- the file is what the encoder writes for the program and the names that stand in the file; these fit, and are within the limits
pub record Encoded (tree : List ℕ) (depth funs : ℕ) (stmts : Stmts) (next : ℕ) : Type 0 where
  pub fits : FitsFile depth funs (names_of tree) stmts
  pub again : encode (names_of tree) stmts ≡ tree
  pub end : next ≡ length tree

-- every accepted file was written so
pub encoded_again : (tree : List ℕ) → Bytes tree → (depth funs : ℕ) (stmts : Stmts) (next : ℕ) → t.read_tree tree depth funs ≡ got stmts next →
    Encoded tree depth funs stmts next
unfolding t.read_tree
encoded_again tree bytes depth funs stmts next e =
    let h = (read_file tree bytes depth funs).run stmts next e in
    let z : names_of tree ≡ h.names = ap names_of (sym h.again) ∙ names_of_encoded depth funs h.names stmts h.fits in
    record {
      fits = subst⁻¹ (λ (names : List (List ℕ)). FitsFile depth funs names stmts) z h.fits;
      again = ap (λ (names : List (List ℕ)). encode names stmts) z ∙ h.again;
      end = h.end;
    }

-- so the accepted files are the encodings of what fits, each of one program
pub accepted_exactly : (tree : List ℕ) → Bytes tree → (depth funs : ℕ) (stmts : Stmts) (next : ℕ) →
    (t.read_tree tree depth funs ≡ got stmts next) ↔ Encoded tree depth funs stmts next
accepted_exactly tree bytes depth funs stmts next = (encoded_again tree bytes depth funs stmts next, λ h. read_so h)
  where
    read_so : Encoded tree depth funs stmts next → t.read_tree tree depth funs ≡ got stmts next
    read_so h =
        subst (λ (bs : List ℕ). t.read_tree bs depth funs ≡ got stmts (length bs)) h.again (read_encoded depth funs (names_of tree) stmts h.fits)
        ∙ ap (got stmts) (sym h.end)

-- ## What an encoding says

-- what fits under some limits fits under others that it is within
other_limits : (depth funs more-depth more-funs : ℕ) (names : List (List ℕ)) (stmts : Stmts) → FitsFile depth funs names stmts →
    record_depth stmts ≤ more-depth → nested_funs stmts ≤ more-funs → FitsFile more-depth more-funs names stmts
other_limits depth funs more-depth more-funs names stmts h l g =
    record {
      few_names = h.few_names;
      each_name = h.each_name;
      rising = h.rising;
      count = h.count;
      each_stmt = h.each_stmt;
      within_depth = l;
      within_funs = g;
    }

-- no file says two things
pub one_meaning : (depth funs : ℕ) (names other-names : List (List ℕ)) (stmts other-stmts : Stmts) → FitsFile depth funs names stmts →
    FitsFile depth funs other-names other-stmts → encode names stmts ≡ encode other-names other-stmts → (names ≡ other-names) × (stmts ≡ other-stmts)
one_meaning depth funs names other-names stmts other-stmts h k e = (same_names, same_stmts)
  where
    same_names : names ≡ other-names
    same_names =
        sym (names_of_encoded depth funs names stmts h) ∙ ap names_of e ∙ names_of_encoded depth funs other-names other-stmts k

    same_stmts : stmts ≡ other-stmts
    same_stmts =
        let p : got stmts (length (encode names stmts)) ≡ got other-stmts (length (encode other-names other-stmts)) =
        sym (read_encoded depth funs names stmts h) ∙ ap (λ (tree : List ℕ). t.read_tree tree depth funs) e ∙
        read_encoded depth funs other-names other-stmts k in
        cc

-- of an accepted file no record is deeper than the limit
pub accepted_depth : (tree : List ℕ) → Bytes tree → (depth funs : ℕ) (stmts : Stmts) (next : ℕ) → t.read_tree tree depth funs ≡ got stmts next →
    record_depth stmts ≤ depth
accepted_depth tree bytes depth funs stmts next e = (encoded_again tree bytes depth funs stmts next e).fits.within_depth

-- and no more `SF` records stand in one another
pub accepted_nesting : (tree : List ℕ) → Bytes tree → (depth funs : ℕ) (stmts : Stmts) (next : ℕ) → t.read_tree tree depth funs ≡ got stmts next →
    nested_funs stmts ≤ funs
accepted_nesting tree bytes depth funs stmts next e = (encoded_again tree bytes depth funs stmts next e).fits.within_funs

-- so a file that is accepted under some limits is accepted under others exactly when its program is within those
pub limits_exactly : (tree : List ℕ) → Bytes tree → (some_depth some-funs : ℕ) (stmts : Stmts) (next : ℕ) →
    t.read_tree tree some_depth some-funs ≡ got stmts next → (depth funs : ℕ) →
    (t.read_tree tree depth funs ≡ got stmts next) ↔ ((record_depth stmts ≤ depth) × (nested_funs stmts ≤ funs))
limits_exactly tree bytes some_depth some-funs stmts next e depth funs = (only, so_accepted)
  where
    only : t.read_tree tree depth funs ≡ got stmts next → (record_depth stmts ≤ depth) × (nested_funs stmts ≤ funs)
    only f = (accepted_depth tree bytes depth funs stmts next f, accepted_nesting tree bytes depth funs stmts next f)

    so_accepted : (record_depth stmts ≤ depth) × (nested_funs stmts ≤ funs) → t.read_tree tree depth funs ≡ got stmts next
    so_accepted p =
        let h = encoded_again tree bytes some_depth some-funs stmts next e in
        (accepted_exactly tree bytes depth funs stmts next).1
        (record { fits = other_limits some_depth some-funs depth funs (names_of tree) stmts h.fits p.0 p.1; again = h.again; end = h.end })
