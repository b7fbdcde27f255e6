-- A function: begun a level higher, its statements compiled there, and finished; and the statement and the method that are functions.
use Rattle.steps.specs.Why.{Step}
use Rattle.std.specs.Prelude.{Ok, Err}
use mathlib.Core.Path.{◌≡◌, refl, sym, ap, subst, ◌∙◌}
use mathlib.Core.Bool.{true, false}
use mathlib.Core.List.{List, ◌∷◌, ◌++◌, append_assoc, []}
use Prim.Native.Nat.{ℕ, suc, ◌+◌, ◌-◌, ◌*◌, ◌≤◌, ◌<◌}
use native.Mathlib.Omega.{arith}
use native.Mathlib.Nat.{le_refl}
use lib.ListN.{length, get_or}
use Rattle.rules.specs.Limits.{max_tree}
use Rattle.rules.specs.declared.Span.{Span}
use Rattle.rules.specs.declared.Refusal.TheVariants.{TreeForm}
use Rattle.rules.specs.Tree.{Stmt, StmtFun, Stmts, Fun, fun}
use Rattle.rules.specs.Reader.{got}
use Rattle.rules.specs.TreeFile.{name, read_stmt, fun_fields}
use Rattle.rules.specs.Chunk.{ObjectFunction, CS}
use Rattle.rules.specs.Op as op
use Rattle.rules.specs.Compiler.{Compiler, Compile, ok, err, ◌>>◌, FunctionType, Function, fun_name, method_type, define_name, emit_op_constant, compile_stmt, compile_stmts, compile_function}
use Rattle.fields.specs.Words.{word16, letters, span_of}
use Rattle.tree_laws.proofs.Statements.{FunAt, fun_of, FunStmtAt, fun_stmt_at, MethodAt, method_at}
use Rattle.tree_laws.proofs.Later.{later_names, within_stmts}
use Rattle.state.specs.Layout.{levels, deepest, image_at, start_of_code, end_of_code, type_of, depth_place, code_from_place, type_place, level_words}
use Rattle.steps.specs.View.{Mem, mem, t_of, Rest, view, Agrees, Fit, code_len, depth_at, steady, Refused, Did}
use Rattle.steps.proofs.Steps.{seq_ok, seq_err, refused_seq}
use Rattle.expr_laws.specs.Exprs.{There}
use Rattle.steps.proofs.Monad.{on_to}
use Rattle.stmt_output_laws.specs.Output.{funs_left, stmt_at, stmts_at, fun_at, largest, Holds, Added, more, Grew, WorkedAs, Worked, Walked, Ready}
use Rattle.stmt_output_laws.specs.Output as output
use Rattle.stmt_output_laws.specs.Parts.{open_function, close_function, compile_method}
use Rattle.stmt_output_laws.proofs.Growing.{free_steady, of_gave, of_grew, to_grew, run_seq, run_refused_seq, grown, reached, refused, stopped, conclude, worked_like, more_more}
use Rattle.stmt_functions.specs.Functions.{FunHead, Inside, FunctionOpenedAs, FunctionOpened, Finished, FunctionClosedAs, FunctionClosed}
use Rattle.stmt_functions.proofs.Cut.{function_cut}
use Rattle.stmt_laws.proofs.Cuts.{fun_cut}
use Rattle.stmt_laws.proofs.Blocks.{by_parts}
use Rattle.fields.specs.Marks as marks
use Rattle.steps.specs.declared.Why.{Why}
use Rattle.rules.specs.declared.Stopped.{Stopped}

-- ## Numbers

pub one_fewer : (l : ℕ) → funs_left l - 1 ≡ funs_left (suc l)
unfolding funs_left
one_fewer l = omega arith

pub one_more_level : (l : ℕ) → 0 < funs_left l → suc l < levels
unfolding funs_left
one_more_level l h = omega arith

inner_deep : (d e left : ℕ) → e ≡ d + 1 → d + 2 * (left + 1) ≤ deepest → e + 2 * left ≤ deepest
inner_deep d e left q h = omega arith

above_image : (l i : ℕ) → suc l < levels → image_at ≤ i → suc l * level_words + level_words ≤ i
above_image l i h g = omega arith

below_level : (l k o : ℕ) → k ≤ l → o ≤ type_place → k * level_words + o < suc l * level_words
below_level l k o h g = omega arith

small_count : {c n len : ℕ} → c ≤ n → n ≤ len → len ≤ max_tree → c ≤ max_tree
small_count p q r = omega arith

small_bytes : {c n len : ℕ} → c ≤ n * largest → n ≤ len → len ≤ max_tree → c ≤ max_tree * largest
small_bytes p q r = omega arith

lower : {k l : ℕ} → k ≤ l → k < suc l
lower h = omega arith

below : {k l : ℕ} → k < l → k ≤ l
below h = omega arith

less_one : {o : ℕ} → code_from_place ≤ o → depth_place ≤ o
less_one h = omega arith

never : {A : Type 0} → false ≡ true → A
never h = let z : ◌≡◌ {A = ℕ} 0 1 = cc in absurd (omega arith)

code_up : (t code spans : List ℕ) (now : Mem) (l : ℕ) → end_of_code t ≤ end_of_code (t_of now) → start_of_code (t_of now) l ≡ start_of_code t l → code_len (mem t code spans) l ≤ code_len now l
unfolding code_len
code_up t code spans (mem t' code' spans') l h q = omega arith

deep_same : (t code spans : List ℕ) (now : Mem) (l : ℕ) → get_or (t_of now) (l * level_words + depth_place) 0 ≡ get_or t (l * level_words + depth_place) 0 → depth_at now l
    ≡ depth_at (mem t code spans) l
unfolding depth_at
deep_same t code spans (mem t' code' spans') l q = q

-- ## The function

module _ (tree : List ℕ) (l at left kind : ℕ) (span : Span) where
  abbrev parts : {f : Fun} {n : ℕ} → fun_at tree left l at ≡ got f n → FunAt tree (word16 tree 2) (read_stmt tree (word16 tree 2) left (funs_left (suc l))) at f n
  parts h = fun_of tree (word16 tree 2) (read_stmt tree (word16 tree 2) left (funs_left (suc l))) at h

  pub function_head : There (fun_at tree left l at) → FunHead tree at
  function_head h = let i = parts h.is in record { bound = i.bound; params = i.params; mid = i.mid; row_is = i.row_is }

  -- what the function is, and that its parts make it
  module _ (limit : ℕ) {f : Fun} {n : ℕ} (h : fun_at tree left l at ≡ got f n) where
    abbrev begin : Compile Unit
    begin = open_function (type_of kind) (word16 tree (at + 10)) (parts h).params span

    whole : (s : Compiler) → compile_function limit f (type_of kind) span s ≡ (begin >> (compile_stmts limit (parts h).body >> close_function limit span)) s
    whole s =
        ap (λ (g : Fun). compile_function limit g (type_of kind) span s) (parts h).is ∙ function_cut limit (word16 tree (at + 10)) (parts h).params (parts h).body (type_of kind) span s

  module _ {t t1 : List ℕ} {ra : Step} (a : FunctionOpened l kind tree at span t t1 ra) where
    opens : {f : Fun} {n : ℕ} (h : fun_at tree left l at ≡ got f n) → FunctionOpenedAs l (parts h).mid (open_function (type_of kind) (word16 tree (at + 10)) (parts h).params span) t t1 ra
    opens h = a.did (parts h).params (parts h).mid (parts h).row_is

    pub function_stop : {class limit : ℕ} (code spans out : List ℕ) {x : Why} → ra ≡ Err x
        → Walked class limit l at (fun_at tree left l at) (λ f. compile_function limit f (type_of kind) span) (mem t code spans) out (mem t1 code spans) out ra
    function_stop {class} {limit} code spans out {x} q = record {
      did = λ f n h.
          let e = subst (λ (z : Step). FunctionOpenedAs l (parts h).mid (open_function (type_of kind) (word16 tree (at + 10)) (parts h).params span) t t1 z) q (opens h) in
          worked_like (whole limit h) (stopped q (refused_seq (record { refuses = λ rest g. e code spans rest }) _));
    }

    module _ {first : ℕ} (qa : ra ≡ Ok first) where
      inside : {f : Fun} {n : ℕ} (h : fun_at tree left l at ≡ got f n) → Inside l (open_function (type_of kind) (word16 tree (at + 10)) (parts h).params span) t t1 × (first ≡ (parts h).mid)
      inside h = subst (λ (z : Step). FunctionOpenedAs l (parts h).mid (open_function (type_of kind) (word16 tree (at + 10)) (parts h).params span) t t1 z) qa (opens h)

      pub function_bound : There (fun_at tree left l at) → first + 2 ≤ length tree
      function_bound h = subst (λ (k : ℕ). k + 2 ≤ length tree) (sym (inside h.is).1) (parts h.is).late

      row_of : {f : Fun} {n : ℕ} (h : fun_at tree left l at ≡ got f n) → stmts_at tree (word16 tree first) left (suc l) (first + 2) ≡ got (parts h).body n
      row_of h = ap (λ (k : ℕ). stmts_at tree (word16 tree k) left (suc l) (k + 2)) (inside h).1 ∙ (parts h).stmts

      pub function_row : There (fun_at tree left l at) → There (stmts_at tree (word16 tree first) left (suc l) (first + 2))
      function_row h = record { thing = (parts h.is).body; next = h.next; is = row_of h.is }

      -- the body starts behind the parameters
      pub behind : {f : Fun} {n : ℕ} (h : fun_at tree left l at ≡ got f n) → at + 1 ≤ first + 2
      behind h = let z = later_names tree (word16 tree 2) (TreeForm at) (word16 tree (at + 12)) (at + 14) (parts h).row_is in let e = (inside h).1 in omega (arith, z, e)

      image_kept : {f : Fun} {n : ℕ} (h : fun_at tree left l at ≡ got f n) → suc l < levels → (i : ℕ) → image_at ≤ i → get_or t1 i 0 ≡ get_or t i 0
      image_kept h low i g = (inside h).0.kept.above i (above_image l i low g)

      pub function_ready : {limit : ℕ} (code spans : List ℕ) → There (fun_at tree left l at) → suc l < levels → Ready tree (mem t code spans) at (left + 1) l limit
          → Ready tree (mem t1 code spans) (first + 2) left (suc l) limit
      function_ready code spans h low y =
          let p = image_kept h.is low image_at (le_refl image_at) in
          let q = image_kept h.is low (image_at + 1) (omega arith) in
          let b = behind h.is in
          record {
            fit = (inside h.is).0.fit code spans y.fit;
            small = y.small;
            short = y.short;
            shallow = inner_deep (depth_at (mem t code spans) l) (depth_at (mem t1 code spans) (suc l)) left ((inside h.is).0.deep code spans) y.shallow;
            few = let f = y.few in omega arith;
            little = let f = y.little in omega arith;
          }

      module _ {class limit : ℕ} {code spans out : List ℕ} {m2 : Mem} {out2 : List ℕ} {rb : Step}
          (b : Walked class limit (suc l) (first + 2) (stmts_at tree (word16 tree first) left (suc l) (first + 2)) (compile_stmts limit) (mem t1 code spans) out m2 out2 rb) where
        body_did : {f : Fun} {n : ℕ} (h : fun_at tree left l at ≡ got f n) → Worked class limit (suc l) (first + 2) n (compile_stmts limit (parts h).body) (mem t1 code spans) out m2 out2 rb
        body_did {f} {n} h = b.did (parts h).body n (row_of h)

        agreed : {f : Fun} {n : ℕ} (h : fun_at tree left l at ≡ got f n) → suc l < levels → (rest : Rest) → Agrees class (mem t code spans) rest → Agrees class (mem t1 code spans) rest
        agreed h low rest g = record { innermost = g.innermost; made = g.made ∙ sym (image_kept h low image_at (le_refl image_at)) }

        pub function_stop_2 : suc l < levels → {x : Why} → rb ≡ Err x
            → Walked class limit l at (fun_at tree left l at) (λ f. compile_function limit f (type_of kind) span) (mem t code spans) out m2 out2 rb
        function_stop_2 low q = record {
          did = λ f n h.
              worked_like (whole limit h)
              (stopped q (record { refuses = λ rest g. seq_ok _ _ _ ((inside h).0.comes code spans rest) ∙ seq_err _ _ _ ((refused (body_did h) q).refuses rest (agreed h low rest g)) }));
        }

        module _ {n1 : ℕ} (qb : rb ≡ Ok n1) where
          grew : {f : Fun} {n : ℕ} (h : fun_at tree left l at ≡ got f n) → Grew class limit (suc l) (first + 2) n (compile_stmts limit (parts h).body) (mem t1 code spans) out m2 out2
          grew h = grown (body_did h) qb

          pub function_fit : There (fun_at tree left l at) → Fit m2 (suc l) limit
          function_fit h = (grew h.is).gave.ahead.fit

          ended : (h : There (fun_at tree left l at)) → h.next ≤ length tree
          ended h = within_stmts tree (word16 tree 2) (word16 tree first) left (funs_left (suc l)) (first + 2) (function_bound h) (row_of h.is)

          counted : (h : There (fun_at tree left l at)) → suc l < levels → Ready tree (mem t code spans) at (left + 1) l limit → get_or (t_of m2) image_at 0 ≤ h.next
          counted h low y = let r = (function_ready code spans h low y).few in let f = (grew h.is).added.few in omega arith

          measured : (h : There (fun_at tree left l at)) → suc l < levels → Ready tree (mem t code spans) at (left + 1) l limit → get_or (t_of m2) (image_at + 1) 0 ≤ h.next * largest
          measured h low y = let r = (function_ready code spans h low y).little in let f = (grew h.is).added.little in omega arith

          pub function_count : There (fun_at tree left l at) → suc l < levels → Ready tree (mem t code spans) at (left + 1) l limit → get_or (t_of m2) image_at 0 ≤ max_tree
          function_count h low y = small_count (counted h low y) (ended h) y.short

          pub function_bytes : There (fun_at tree left l at) → suc l < levels → Ready tree (mem t code spans) at (left + 1) l limit → get_or (t_of m2) (image_at + 1) 0 ≤ max_tree * largest
          function_bytes h low y = small_bytes (measured h low y) (ended h) y.short

          module _ (low : suc l < levels) (now : Mem) (out3 : List ℕ) where
            -- words of the levels around, from the start to the end
            same : {f : Fun} {n : ℕ} (h : fun_at tree left l at ≡ got f n) → Finished class limit l span m2 out2 now out3 → (k o : ℕ) → k ≤ l → depth_place ≤ o → o ≤ type_place
                → get_or (t_of now) (k * level_words + o) 0 ≡ get_or t (k * level_words + o) 0
            same h d k o p q r = d.under k o p q r ∙ (grew h).gave.ahead.under k o (lower p) q r ∙ (inside h).0.kept.below (k * level_words + o) (below_level l k o p r)

            longer : {f : Fun} {n : ℕ} (h : fun_at tree left l at ≡ got f n) → Finished class limit l span m2 out2 now out3 → end_of_code t ≤ end_of_code (t_of now)
            longer h d = let p = (grew h).gave.ahead.head code_from_place (omega arith) (omega arith) in let q = (inside h).0.from in let u = d.up in omega (arith, p, q, u)

            added_function : {f : Fun} {n : ℕ} (h : fun_at tree left l at ≡ got f n) (d : Finished class limit l span m2 out2 now out3)
                → Added at n ((grew h).made ++ (d.function ∷ [])) t out (t_of now) out3
            added_function h d =
                let p = image_kept h low image_at (le_refl image_at) in
                let q = image_kept h low (image_at + 1) (omega arith) in
                let a = (grew h).added in
                let b = behind h in
                record {
                  put = λ functions z.
                      subst (λ (fs : List ObjectFunction). Holds (t_of now) out3 fs) (append_assoc functions (grew h).made (d.function ∷ []))
                      (d.put (functions ++ (grew h).made) (a.put functions (record { bytes = z.bytes; long = q ∙ z.long; counted = z.counted })));
                  few = let f = a.few in let c = d.count in omega arith;
                  little = let f = a.little in let c = d.bytes in omega arith;
                }

            finish : {f : Fun} {n : ℕ} (h : fun_at tree left l at ≡ got f n) → Finished class limit l span m2 out2 now out3
                → Grew class limit l at n (open_function (type_of kind) (word16 tree (at + 10)) (parts h).params span >> (compile_stmts limit (parts h).body >> close_function limit span))
                (mem t code spans) out now out3
            finish {f} {n} h d =
                let g = grew h in
                record {
                  made = g.made ++ (d.function ∷ []);
                  gave = record {
                    comes = λ rest z.
                        seq_ok _ _ _ ((inside h).0.comes code spans rest) ∙ seq_ok _ _ _ (g.gave.comes rest (agreed h low rest z)) ∙ d.comes (more g.made rest)
                        (g.gave.agrees rest (agreed h low rest z))
                        ∙ ap (λ (x : Rest). ok tt (view now l x)) (more_more g.made (d.function ∷ []) rest);
                    agrees = λ rest z. subst (λ (x : Rest). Agrees class now x) (more_more g.made (d.function ∷ []) rest)
                        (d.agrees (more g.made rest) (g.gave.agrees rest (agreed h low rest z)));
                    ahead = record {
                      fit = d.fit;
                      up = code_up t code spans now l (longer h d) (same h d l code_from_place (le_refl l) (omega arith) (omega arith));
                      deep = deep_same t code spans now l (same h d l depth_place (le_refl l) (omega arith) (omega arith));
                      head = λ o p q. same h d l o (le_refl l) (less_one p) q;
                      under = λ k o p q r. same h d k o (below p) q r;
                      over = λ z. never z;
                      beyond = λ z. never z;
                    };
                  };
                  added = added_function h d;
                }

            refuses : {f : Fun} {n : ℕ} (h : fun_at tree left l at ≡ got f n) {x : Stopped} → ((rest : Rest) → Agrees class m2 rest → close_function limit span (view m2 (suc l) rest) ≡ err x)
                → Refused class l (open_function (type_of kind) (word16 tree (at + 10)) (parts h).params span >> (compile_stmts limit (parts h).body >> close_function limit span))
                (mem t code spans) x
            refuses h z = record {
              refuses = λ rest g.
                  seq_ok _ _ _ ((inside h).0.comes code spans rest) ∙ seq_ok _ _ _ ((grew h).gave.comes rest (agreed h low rest g)) ∙ z (more (grew h).made rest)
                  ((grew h).gave.agrees rest (agreed h low rest g));
            }

            done_as : {f : Fun} {n : ℕ} (h : fun_at tree left l at ≡ got f n) (rc : Step) → FunctionClosedAs class limit l n1 span m2 out2 now out3 rc
                → WorkedAs class limit l at n (open_function (type_of kind) (word16 tree (at + 10)) (parts h).params span >> (compile_stmts limit (parts h).body >> close_function limit span))
                (mem t code spans) out now out3 rc
            done_as h (Ok v) d = (finish h d.0, d.1 ∙ reached (body_did h) qb)
            done_as h (Err x) d = refuses h d

            pub function_done : {rc : Step} → FunctionClosed class limit l n1 span m2 out2 now out3 rc
                → Walked class limit l at (fun_at tree left l at) (λ f. compile_function limit f (type_of kind) span) (mem t code spans) out now out3 rc
            function_done {rc} d = record { did = λ f n h. worked_like (whole limit h) (record { does = done_as h rc d.does }) }

-- ## The statement that is a function

name_of : {f : Fun} {name : ℕ} {params : List ℕ} {body : Stmts} → f ≡ fun name params body → fun_name f ≡ name
unfolding fun_name
name_of q = ap fun_name q

a_function : type_of 1 ≡ Function
unfolding type_of
a_function = refl

module _ (tree : List ℕ) (l at left : ℕ) (mark : letters tree at ≡ marks.SF) where
  abbrev stmt_parts : {s : Stmt} {n : ℕ} → stmt_at tree left l at ≡ got s n → FunStmtAt tree (word16 tree 2) (read_stmt tree (word16 tree 2) (left - 1) (funs_left l - 1)) (funs_left l) at s n
  stmt_parts h = fun_stmt_at tree (word16 tree 2) left (funs_left l) at mark h

  fun_read : {s : Stmt} {n : ℕ} (h : stmt_at tree left l at ≡ got s n) → fun_at tree (left - 1) l at ≡ got (stmt_parts h).function n
  fun_read h = ap (λ (k : ℕ). fun_fields tree (word16 tree 2) (read_stmt tree (word16 tree 2) (left - 1) k) (TreeForm at) (at + 10)) (sym (one_fewer l)) ∙ (stmt_parts h).one

  pub fun_there : There (stmt_at tree left l at) → There (fun_at tree (left - 1) l at)
  fun_there h = record { thing = (stmt_parts h.is).function; next = h.next; is = fun_read h.is }

  pub fun_low : There (stmt_at tree left l at) → suc l < levels
  fun_low h = one_more_level l (stmt_parts h.is).opens

  pub fun_bound : There (stmt_at tree left l at) → at + 14 ≤ length tree
  fun_bound h = (fun_of tree (word16 tree 2) (read_stmt tree (word16 tree 2) (left - 1) (funs_left (suc l))) at (fun_read h.is)).bound

  named : {s : Stmt} {n : ℕ} (h : stmt_at tree left l at ≡ got s n) → fun_name (stmt_parts h).function ≡ word16 tree (at + 10)
  named h = name_of (fun_of tree (word16 tree 2) (read_stmt tree (word16 tree 2) (left - 1) (funs_left (suc l))) at (fun_read h)).is

  module _ (span : Span) (sp : span ≡ span_of tree (at + 2)) {class limit : ℕ} {before m1 : Mem} {out out1 : List ℕ} {ra : Step}
      (a : Walked class limit l at (fun_at tree (left - 1) l at) (λ f. compile_function limit f (type_of 1) span) before out m1 out1 ra) where
    function_did : {s : Stmt} {n : ℕ} (h : stmt_at tree left l at ≡ got s n) → Worked class limit l at n (compile_function limit (stmt_parts h).function Function span) before out m1 out1 ra
    function_did {s} {n} h =
        subst (λ (k : FunctionType). Worked class limit l at n (compile_function limit (stmt_parts h).function k span) before out m1 out1 ra) a_function
        (a.did (stmt_parts h).function n (fun_read h))

    fun_whole : {s : Stmt} {n : ℕ} (h : stmt_at tree left l at ≡ got s n) → s ≡ StmtFun span (stmt_parts h).function
    fun_whole h = (stmt_parts h).is ∙ ap (λ (z : Span). StmtFun z (stmt_parts h).function) (sym sp)

    pub fun_stop : {x : Why} → ra ≡ Err x → Walked class limit l at (stmt_at tree left l at) (compile_stmt limit) before out m1 out1 ra
    fun_stop q = record { did = λ s n h. by_parts (fun_whole h) (fun_cut limit span (stmt_parts h).function) (stopped q (refused_seq (refused (function_did h) q) _)) }

    pub fun_fit : {n1 : ℕ} → There (stmt_at tree left l at) → ra ≡ Ok n1 → Fit m1 l limit
    fun_fit h q = (grown (function_did h.is) q).gave.ahead.fit

    pub fun_done : {n1 name : ℕ} {now : Mem} {rb : Step} → ra ≡ Ok n1 → name ≡ word16 tree (at + 10) → Did class limit l n1 steady (define_name limit name span) m1 now rb
        → Walked class limit l at (stmt_at tree left l at) (compile_stmt limit) before out now out1 rb
    fun_done {n1} {name} {now} {rb} q e d = record {
      did = λ s n h.
          let first = of_grew (grown (function_did h) q) in
          by_parts (fun_whole h) (fun_cut limit span (stmt_parts h).function)
          (conclude (λ z. to_grew (λ d. refl) refl (λ x. refl) (run_seq free_steady _ first (of_gave out1 refl (le_refl n) z))) (λ x z. run_refused_seq first _ z)
          (on_to (reached (function_did h) q) (subst (λ (k : ℕ). Did class limit l n1 steady (define_name limit k span) m1 now rb) (e ∙ sym (named h)) d)));
    }

-- ## A method

module _ (tree : List ℕ) (l at left : ℕ) where
  abbrev method_parts : {s : Span × Fun} {n : ℕ} → output.method_at tree left l at ≡ got s n
      → MethodAt tree (word16 tree 2) (read_stmt tree (word16 tree 2) (left - 1) (funs_left l - 1)) left (funs_left l) at s n
  method_parts h = method_at tree (word16 tree 2) left (funs_left l) at h

  method_read : {s : Span × Fun} {n : ℕ} (h : output.method_at tree left l at ≡ got s n) → fun_at tree (left - 1) l at ≡ got (method_parts h).function n
  method_read h = ap (λ (k : ℕ). fun_fields tree (word16 tree 2) (read_stmt tree (word16 tree 2) (left - 1) k) (TreeForm at) (at + 10)) (sym (one_fewer l)) ∙ (method_parts h).one

  pub method_there : There (output.method_at tree left l at) → There (fun_at tree (left - 1) l at)
  method_there h = record { thing = (method_parts h.is).function; next = h.next; is = method_read h.is }

  pub method_low : There (output.method_at tree left l at) → suc l < levels
  method_low h = one_more_level l (method_parts h.is).opens

  pub method_room : There (output.method_at tree left l at) → 0 < left
  method_room h = (method_parts h.is).room

  pub method_bound : There (output.method_at tree left l at) → at + 14 ≤ length tree
  method_bound h = (fun_of tree (word16 tree 2) (read_stmt tree (word16 tree 2) (left - 1) (funs_left (suc l))) at (method_read h.is)).bound

  method_named : {s : Span × Fun} {n : ℕ} (h : output.method_at tree left l at ≡ got s n) → fun_name (method_parts h).function ≡ word16 tree (at + 10)
  method_named h = name_of (fun_of tree (word16 tree 2) (read_stmt tree (word16 tree 2) (left - 1) (funs_left (suc l))) at (method_read h)).is

  module _ (span : Span) (sp : span ≡ span_of tree (at + 2)) (kind : ℕ) {class limit name : ℕ} {before m1 : Mem} {out out1 : List ℕ} {ra : Step} (e : name ≡ word16 tree (at + 10))
      (k : type_of kind ≡ method_type name)
      (a : Walked class limit l at (fun_at tree (left - 1) l at) (λ f. compile_function limit f (type_of kind) span) before out m1 out1 ra) where
    method_did : {s : Span × Fun} {n : ℕ} (h : output.method_at tree left l at ≡ got s n)
        → Worked class limit l at n (compile_function limit (method_parts h).function (method_type (fun_name (method_parts h).function)) span) before out m1 out1 ra
    method_did {s} {n} h =
        subst (λ (z : FunctionType). Worked class limit l at n (compile_function limit (method_parts h).function z span) before out m1 out1 ra) (k ∙ ap method_type (e ∙ sym (method_named h)))
        (a.did (method_parts h).function n (method_read h))

    -- a method by its parts
    by_method : {n : ℕ} {now : Mem} {out' : List ℕ} {r : Step} {s : Span × Fun} {f : Fun} → s ≡ (span_of tree (at + 2), f)
        → Worked class limit l at n (compile_function limit f (method_type (fun_name f)) span >> emit_op_constant limit op.METHOD (CS (fun_name f)) span) before out now out' r
        → Worked class limit l at n (compile_method limit s) before out now out' r
    unfolding compile_method
    by_method {f = f} q w = worked_like (λ z. ap (λ (s : Span × Fun). compile_method limit s z) (q ∙ ap (λ (x : Span). (x, f)) (sym sp))) w

    pub method_stop : {x : Why} → ra ≡ Err x → Walked class limit l at (output.method_at tree left l at) (compile_method limit) before out m1 out1 ra
    method_stop q = record { did = λ s n h. by_method (method_parts h).is (stopped q (refused_seq (refused (method_did h) q) _)) }

    pub method_fit : {n1 : ℕ} → There (output.method_at tree left l at) → ra ≡ Ok n1 → Fit m1 l limit
    method_fit h q = (grown (method_did h.is) q).gave.ahead.fit

    pub method_done : {n1 : ℕ} {now : Mem} {rb : Step} → ra ≡ Ok n1 → Did class limit l n1 steady (emit_op_constant limit op.METHOD (CS name) span) m1 now rb
        → Walked class limit l at (output.method_at tree left l at) (compile_method limit) before out now out1 rb
    method_done {n1} {now} {rb} q d = record {
      did = λ s n h.
          let first = of_grew (grown (method_did h) q) in
          by_method (method_parts h).is
          (conclude (λ z. to_grew (λ d. refl) refl (λ x. refl) (run_seq free_steady _ first (of_gave out1 refl (le_refl n) z))) (λ x z. run_refused_seq first _ z)
          (on_to (reached (method_did h) q) (subst (λ (j : ℕ). Did class limit l n1 steady (emit_op_constant limit op.METHOD (CS j) span) m1 now rb) (e ∙ sym (method_named h)) d)));
    }
