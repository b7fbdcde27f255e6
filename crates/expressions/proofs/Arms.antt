-- The arms of `compile_expr`: from what is known of its steps, that the expression that was read is compiled. One law for each way out.
use Rattle.std.specs.Prelude.{Ok, Err}
use mathlib.Core.Path.{◌≡◌, sym, ap, ap₂, subst, ◌∙◌}
use mathlib.Core.Bool.{true, false}
use mathlib.Core.Option.{some}
use mathlib.Core.List.{List}
use Prim.Native.Nat.{ℕ, ◌+◌, ◌-◌, ◌^◌, ◌≤◌, ◌<◌}
use native.Mathlib.Omega.{arith}
use lib.ListN.{length}
use borrow.Author.Tests.{lt-ltb}
use Rattle.rules.specs.Base.{lookup}
use Rattle.rules.specs.Limits.{max_bits}
use Rattle.rules.specs.declared.Span.{Span}
use Rattle.rules.specs.Tree.{Expr, Exprs, ExprAssign, ExprCall, ExprGet, ExprInfix, Literal, ExprPrefix, ExprSet, ExprSuper, ExprVar, ExprLiteral, LitBool, LitNil, LitNumber, LitString, OpInfix}
use Rattle.rules.specs.Reader.{Read, got}
use Rattle.rules.specs.TreeFile.{read_exprs, infix_ops, prefix_ops}
use Rattle.rules.specs.Op as op
use Rattle.rules.specs.Chunk.{Constant, CN, CS}
use Rattle.rules.specs.Compiler.{Compile, ◌>>=◌, ◌>>◌, emit_op, emit_op_constant, get_variable, set_variable, compile_literal, compile_super, compile_expr, compile_exprs}
use Rattle.fields.specs.Words.{word8, word16, word64, letters, span_of}
use Rattle.tree_laws.proofs.Expressions.{LiteralAt, count_read, any_at, prefix_at, infix_at, get_at, assign_at, set_at, var_at, super_at, call_at, literal_at, false_at, true_at, nil_at, number_at}
use Rattle.tree_laws.proofs.Expressions.{string_at, last_mark}
use Rattle.tree_laws.proofs.Later.{later_expr}
use Rattle.state.specs.Layout.{constant_of}
use Rattle.steps.specs.View.{Mem, t_of, Fit, code_len, steady, Gave, Refused, Did}
use Rattle.steps.proofs.Steps.{went, valued, still, stop, halt, then_on, did_bind, did_seq, refused_bind, refused_seq, gave_refused_seq}
use Rattle.expr_laws.specs.Exprs.{There, Somewhere, expr_at, Ran, PrefixOp, before_right, after_right, BegunAs, BegunBy, Begun, Closed, callee_of, parts, first_part, part_count, call_open}
use Rattle.expr_laws.specs.Exprs.{call_close, CallOpened, CallParts, CallClosed}
use Rattle.steps.proofs.Monad.{like, on_to}
use Rattle.expr_laws.proofs.Operators.{infix_cut}
use Rattle.expr_laws.proofs.Calls.{call_cut, first_on, parts_read, Walk, walk_stop, walk_done}
use Rattle.fields.specs.Marks as marks
use Rattle.steps.specs.Why.{told, Step}
use Rattle.steps.specs.declared.Why.{Why}

-- a number's word is the number
number_word : (n : ℕ) → n ≤ max_bits → constant_of n ≡ CN n
number_word n h = let b : n < 2 ^ 63 = omega arith in rw (lt-ltb n (2 ^ 63) b)

same_stop : {class limit l n : ℕ} {m : Compile Unit} {before now : Mem} {r : Step} {x : Why} → r ≡ Err x → Refused class l m before (told (t_of now) x) → Did class limit l n steady m before now r
same_stop {class} {limit} {l} {n} {m} {before} {now} q h = subst (λ (s : Step). Did class limit l n steady m before now s) (sym q) (stop now h)

module _ {class limit l : ℕ} {before : Mem} where
  -- what was read is this
  by : {n : ℕ} {e e' : Expr} {now : Mem} {r : Step} → e ≡ e' → Did class limit l n steady (compile_expr limit e') before now r → Did class limit l n steady (compile_expr limit e) before now r
  by {n} {now = now} {r = r} q x = subst (λ (z : Expr). Did class limit l n steady (compile_expr limit z) before now r) (sym q) x

  -- the answer, made anew
  pub same_answer : {x : Read Expr} {now : Mem} {r r' : Step} → r ≡ r' → Ran class limit l x before now r → Ran class limit l x before now r'
  same_answer {x} {now} q a = subst (λ (s : Step). Ran class limit l x before now s) q a

  -- ## Literals

  module _ (tree : List ℕ) (d at : ℕ) (sp : Span) (m : letters tree at ≡ marks.EL) (s : sp ≡ span_of tree (at + 2)) {now : Mem} {r : Step} where
    literal_by : (lit : ExprLiteral) (k : ℕ) → ((e : Expr) (n : ℕ) → LiteralAt tree (word16 tree 2) at e n → (e ≡ Literal (span_of tree (at + 2)) lit) × (n ≡ k))
        → Did class limit l k steady (compile_literal limit lit sp) before now r → Ran class limit l (expr_at tree d at) before now r
    unfolding compile_expr
    literal_by lit k f x = record {
      did = λ e n z.
          let i = f e n (literal_at tree (word16 tree 2) d at m z) in
          on_to (sym i.1) (by (i.0 ∙ ap (λ (w : Span). Literal w lit) (sym s)) x);
    }

    pub false_done : word8 tree (at + 10) ≡ 0 → Did class limit l (at + 11) steady (emit_op limit op.FALSE sp) before now r → Ran class limit l (expr_at tree d at) before now r
    unfolding compile_literal
    false_done k x = literal_by (LitBool false) (at + 11) (λ e n i. let j = false_at tree (word16 tree 2) at i k in (j.is, j.end)) x

    pub true_done : word8 tree (at + 10) ≡ 1 → Did class limit l (at + 11) steady (emit_op limit op.TRUE sp) before now r → Ran class limit l (expr_at tree d at) before now r
    unfolding compile_literal
    true_done k x = literal_by (LitBool true) (at + 11) (λ e n i. let j = true_at tree (word16 tree 2) at i k in (j.is, j.end)) x

    pub nil_done : word8 tree (at + 10) ≡ 2 → Did class limit l (at + 11) steady (emit_op limit op.NIL sp) before now r → Ran class limit l (expr_at tree d at) before now r
    unfolding compile_literal
    nil_done k x = literal_by LitNil (at + 11) (λ e n i. let j = nil_at tree (word16 tree 2) at i k in (j.is, j.end)) x

    pub number_done : (w : ℕ) → w ≡ word64 tree (at + 11) → word64 tree (at + 11) ≤ max_bits → word8 tree (at + 10) ≡ 3
        → Did class limit l (at + 19) steady (emit_op_constant limit op.CONSTANT (constant_of w) sp) before now r → Ran class limit l (expr_at tree d at) before now r
    unfolding compile_literal
    number_done w q b k x =
        let c : constant_of w ≡ CN (word64 tree (at + 11)) = ap constant_of q ∙ number_word (word64 tree (at + 11)) b in
        literal_by (LitNumber (word64 tree (at + 11))) (at + 19) (λ e n i. let j = number_at tree (word16 tree 2) at i k in (j.is, j.end))
        (subst (λ (z : Constant). Did class limit l (at + 19) steady (emit_op_constant limit op.CONSTANT z sp) before now r) c x)

    pub string_done : (w : ℕ) → w ≡ word16 tree (at + 11) → word8 tree (at + 10) ≡ 4
        → Did class limit l (at + 13) steady (emit_op_constant limit op.CONSTANT (CS w) sp) before now r → Ran class limit l (expr_at tree d at) before now r
    unfolding compile_literal
    string_done w q k x =
        literal_by (LitString (word16 tree (at + 11))) (at + 13) (λ e n i. let j = string_at tree (word16 tree 2) at i k in (j.is, j.end))
        (subst (λ (z : ℕ). Did class limit l (at + 13) steady (emit_op_constant limit op.CONSTANT (CS z) sp) before now r) q x)

  -- ## Names

  module _ (tree : List ℕ) (d at : ℕ) (sp : Span) (s : sp ≡ span_of tree (at + 2)) (name : ℕ) (p : name ≡ word16 tree (at + 10)) where
    pub var_done : {now : Mem} {r : Step} → letters tree at ≡ marks.EV → Did class limit l (at + 12) steady (get_variable limit name sp) before now r → Ran
        class limit l (expr_at tree d at) before now r
    unfolding compile_expr
    var_done m x = record {
      did = λ e n z.
          let i = var_at tree (word16 tree 2) d at m z in
          on_to (sym i.end) (by (i.is ∙ ap₂ ExprVar (sym s) (sym p)) x);
    }

    pub super_done : {now : Mem} {r : Step} → letters tree at ≡ marks.EU → Did class limit l (at + 12) steady (compile_super limit name sp) before now r
        → Ran class limit l (expr_at tree d at) before now r
    unfolding compile_expr
    super_done m x = record {
      did = λ e n z.
          let i = super_at tree (word16 tree 2) d at m z in
          on_to (sym i.end) (by (i.is ∙ ap₂ ExprSuper (sym s) (sym p)) x);
    }

    -- ## A name and an expression

    pub assign_done : {mid now : Mem} {r r' : Step} {v : ℕ} → letters tree at ≡ marks.EA → Ran class limit l (expr_at tree (d - 1) (at + 12)) before mid r → r ≡ Ok v
        → Did class limit l v steady (set_variable limit name sp) mid now r' → Ran class limit l (expr_at tree d at) before now r'
    unfolding compile_expr
    assign_done m a q b = record {
      did = λ e n z.
          let i = assign_at tree (word16 tree 2) d at m z in
          let c = a.did i.value n i.one in
          by (i.is ∙ ap₂ (λ w k. ExprAssign w k i.value) (sym s) (sym p)) (then_on _ c q (on_to (valued c q) b));
    }

    pub get_done : {mid now : Mem} {r r' : Step} {v : ℕ} → letters tree at ≡ marks.EG → Ran class limit l (expr_at tree (d - 1) (at + 12)) before mid r → r ≡ Ok v
        → Did class limit l v steady (emit_op_constant limit op.GET_PROPERTY (CS name) sp) mid now r' → Ran class limit l (expr_at tree d at) before now r'
    unfolding compile_expr
    get_done m a q b = record {
      did = λ e n z.
          let i = get_at tree (word16 tree 2) d at m z in
          let c = a.did i.object n i.one in
          by (i.is ∙ ap₂ (λ w k. ExprGet w k i.object) (sym s) (sym p)) (then_on _ c q (on_to (valued c q) b));
    }

    pub set_done : {mid late now : Mem} {r r' r'' : Step} {v v' : ℕ} → letters tree at ≡ marks.ES → Ran class limit l (expr_at tree (d - 1) (at + 12)) before mid r → r ≡ Ok v
        → Ran class limit l (expr_at tree (d - 1) v) mid late r' → r' ≡ Ok v' → Did class limit l v' steady (emit_op_constant limit op.SET_PROPERTY (CS name) sp) late now r''
        → Ran class limit l (expr_at tree d at) before now r''
    unfolding compile_expr
    set_done m a q b q' f = record {
      did = λ e n z.
          let i = set_at tree (word16 tree 2) d at m z in
          let c = a.did i.value i.mid i.one in
          let c' = b.did i.object n (ap (expr_at tree (d - 1)) (valued c q) ∙ i.two) in
          by (i.is ∙ ap₂ (λ w k. ExprSet w k i.value i.object) (sym s) (sym p)) (then_on _ c q (then_on _ c' q' (on_to (valued c' q') f)));
    }

  module _ (tree : List ℕ) (d at : ℕ) where
    -- the first child stopped
    pub assign_stop : {now : Mem} {r : Step} {x : Why} → letters tree at ≡ marks.EA → Ran class limit l (expr_at tree (d - 1) (at + 12)) before now r → r ≡ Err x
        → Ran class limit l (expr_at tree d at) before now r
    unfolding compile_expr
    assign_stop m a q = record { did = λ e n z. let i = assign_at tree (word16 tree 2) d at m z in by i.is (halt _ (a.did i.value n i.one) q) }

    pub get_stop : {now : Mem} {r : Step} {x : Why} → letters tree at ≡ marks.EG → Ran class limit l (expr_at tree (d - 1) (at + 12)) before now r → r ≡ Err x
        → Ran class limit l (expr_at tree d at) before now r
    unfolding compile_expr
    get_stop m a q = record { did = λ e n z. let i = get_at tree (word16 tree 2) d at m z in by i.is (halt _ (a.did i.object n i.one) q) }

    pub set_stop : {now : Mem} {r : Step} {x : Why} → letters tree at ≡ marks.ES → Ran class limit l (expr_at tree (d - 1) (at + 12)) before now r → r ≡ Err x
        → Ran class limit l (expr_at tree d at) before now r
    unfolding compile_expr
    set_stop m a q = record { did = λ e n z. let i = set_at tree (word16 tree 2) d at m z in by i.is (halt _ (a.did i.value i.mid i.one) q) }

    pub set_second : {mid : Mem} {r : Step} {v n : ℕ} {e : Expr} → letters tree at ≡ marks.ES → expr_at tree d at ≡ got e n → Ran class limit l (expr_at tree (d - 1) (at + 12)) before mid r
        → r ≡ Ok v → There (expr_at tree (d - 1) v)
    set_second m z a q =
        let i = set_at tree (word16 tree 2) d at m z in
        record { thing = i.object; next = _; is = ap (expr_at tree (d - 1)) (valued (a.did i.value i.mid i.one) q) ∙ i.two }

    pub set_stop_2 : {mid now : Mem} {r r' : Step} {v : ℕ} {x : Why} → letters tree at ≡ marks.ES → Ran class limit l (expr_at tree (d - 1) (at + 12)) before mid r → r ≡ Ok v
        → Ran class limit l (expr_at tree (d - 1) v) mid now r' → r' ≡ Err x → Ran class limit l (expr_at tree d at) before now r'
    unfolding compile_expr
    set_stop_2 m a q b q' = record {
      did = λ e n z.
          let i = set_at tree (word16 tree 2) d at m z in
          let c = a.did i.value i.mid i.one in
          let c' = b.did i.object n (ap (expr_at tree (d - 1)) (valued c q) ∙ i.two) in
          by i.is (then_on _ c q (halt _ c' q'));
    }

    -- ## Operators

    pub prefix_stop : {now : Mem} {r : Step} {x : Why} → letters tree at ≡ marks.EP → Ran class limit l (expr_at tree (d - 1) (at + 11)) before now r → r ≡ Err x
        → Ran class limit l (expr_at tree d at) before now r
    unfolding compile_expr
    prefix_stop m a q = record { did = λ e n z. let i = prefix_at tree (word16 tree 2) d at m z in by i.is (halt _ (a.did i.rt n i.one) q) }

    pub prefix_done : {mid now : Mem} {r r' : Step} {v : ℕ} (byte operator : ℕ) (sp : Span) → sp ≡ span_of tree (at + 2) → operator ≡ word8 tree (at + 10) → PrefixOp operator byte
        → letters tree at ≡ marks.EP
        → Ran class limit l (expr_at tree (d - 1) (at + 11)) before mid r → r ≡ Ok v → Did class limit l v steady (emit_op limit byte sp) mid now r'
        → Ran class limit l (expr_at tree d at) before now r'
    unfolding compile_expr
    prefix_done {mid} {now} {r' = r'} {v = v} byte operator sp s w p m a q b = record {
      did = λ e n z.
          let i = prefix_at tree (word16 tree 2) d at m z in
          let c = a.did i.rt n i.one in
          let y = p.is i.op (ap (λ (k : ℕ). lookup k prefix_ops) w ∙ i.look) in
          by (i.is ∙ ap (λ (k : Span). ExprPrefix k i.op i.rt) (sym s))
          (then_on _ c q (on_to (valued c q) (subst (λ (k : ℕ). Did class limit l v steady (emit_op limit k sp) mid now r') y b)));
    }

    pub infix_stop : {now : Mem} {r : Step} {x : Why} → letters tree at ≡ marks.EI → Ran class limit l (expr_at tree (d - 1) (at + 11)) before now r → r ≡ Err x
        → Ran class limit l (expr_at tree d at) before now r
    unfolding compile_expr
    infix_stop m a q = record { did = λ e n z. let i = infix_at tree (word16 tree 2) d at m z in by i.is (halt _ (a.did i.lt i.mid i.one) q) }

    pub infix_second : {mid : Mem} {r : Step} {v n : ℕ} {e : Expr} → letters tree at ≡ marks.EI → expr_at tree d at ≡ got e n → Ran class limit l (expr_at tree (d - 1) (at + 11)) before mid r
        → r ≡ Ok v → There (expr_at tree (d - 1) v)
    infix_second m z a q =
        let i = infix_at tree (word16 tree 2) d at m z in
        record { thing = i.rt; next = _; is = ap (expr_at tree (d - 1)) (valued (a.did i.lt i.mid i.one) q) ∙ i.two }

  -- the operator, once its left side is compiled
  begun_gave : {n v : ℕ} {m : Compile ℕ} {now : Mem} {r : Step} → BegunBy class limit l n m before now r → r ≡ Ok v → Gave class limit l steady m v before now × (10 ≤ n → v + 2 ≤ code_len now l)
  begun_gave {n} {m = m} {now = now} d q = subst (λ (s : Step). BegunAs class limit l n m before now s) q d.does

  begun_refused : {n : ℕ} {m : Compile ℕ} {now : Mem} {r : Step} {x : Why} → BegunBy class limit l n m before now r → r ≡ Err x → Refused class l m before (told (t_of now) x)
  begun_refused {n} {m} {now} d q = subst (λ (s : Step). BegunAs class limit l n m before now s) q d.does

module _ {class limit l : ℕ} {before mid : Mem} (tree : List ℕ) (d at operator : ℕ) (sp : Span) (s : sp ≡ span_of tree (at + 2)) (w : operator ≡ word8 tree (at + 10)) (m : letters tree at ≡ marks.EI)
    {r : Step} {v : ℕ} (a : Ran class limit l (expr_at tree (d - 1) (at + 11)) before mid r) (q : r ≡ Ok v) where
  -- what is left after the left side
  infix_by : {now : Mem} {r' : Step} → ((o : OpInfix) (rt : Expr) (n : ℕ) → lookup operator infix_ops ≡ some o → expr_at tree (d - 1) v ≡ got rt n
      → Did class limit l n steady (before_right limit o sp >>= λ place. compile_expr limit rt >> after_right limit o place sp) mid now r') → Ran class limit l (expr_at tree d at) before now r'
  unfolding compile_expr
  infix_by f = record {
    did = λ e n z.
        let i = infix_at tree (word16 tree 2) d at m z in
        let c = a.did i.lt i.mid i.one in
        by (i.is ∙ ap (λ (k : Span). ExprInfix k i.op i.lt i.rt) (sym s))
        (then_on _ c q (like (infix_cut limit i.op (compile_expr limit i.rt) sp)
        (f i.op i.rt n (ap (λ (k : ℕ). lookup k infix_ops) w ∙ i.look) (ap (expr_at tree (d - 1)) (valued c q) ∙ i.two))));
  }

  pub infix_stop_2 : {now : Mem} {r' : Step} {x : Why} → Begun class limit l operator sp mid now r' → r' ≡ Err x → Ran class limit l (expr_at tree d at) before now r'
  infix_stop_2 b q' = infix_by (λ o rt n h z. same_stop q' (refused_bind (begun_refused (b.did o h) q') _))

  pub infix_stop_3 : {late now : Mem} {r' r'' : Step} {place : ℕ} {x : Why} → Begun class limit l operator sp mid late r' → r' ≡ Ok place
      → Ran class limit l (expr_at tree (d - 1) v) late now r'' → r'' ≡ Err x → Ran class limit l (expr_at tree d at) before now r''
  infix_stop_3 b q' f q'' = infix_by (λ o rt n h z. did_bind (begun_gave (b.did o h) q').0 _ (halt _ (f.did rt n z) q''))

  pub infix_done : {late last now : Mem} {r' r'' r''' : Step} {place v' : ℕ} → Begun class limit l operator sp mid late r' → r' ≡ Ok place
      → Ran class limit l (expr_at tree (d - 1) v) late last r'' → r'' ≡ Ok v' → Closed class limit l operator place v' sp last now r''' → Ran class limit l (expr_at tree d at) before now r'''
  infix_done b q' f q'' g = infix_by (λ o rt n h z. let c = f.did rt n z in did_bind (begun_gave (b.did o h) q').0 _ (then_on _ c q'' (on_to (valued c q'') (g.did o h))))

-- what the steps after the left side need
pub begun_fit : {class limit l operator place : ℕ} (tree : List ℕ) (d at : ℕ) {sp : Span} {e : Expr} {n : ℕ} {before now : Mem} {r : Step} → operator ≡ word8
    tree (at + 10) → letters tree at ≡ marks.EI
    → expr_at tree d at ≡ got e n
    → Begun class limit l operator sp before now r → r ≡ Ok place → Fit now l limit × (10 ≤ operator → place + 2 ≤ code_len now l)
begun_fit tree d at w m z b q =
    let i = infix_at tree (word16 tree 2) d at m z in
    let g = begun_gave (b.did i.op (ap (λ (k : ℕ). lookup k infix_ops) w ∙ i.look)) q in
    (g.0.ahead.fit, g.1)

-- ## Calls

pub callee_there : (tree : List ℕ) (d at : ℕ) → letters tree at ≡ marks.EC → {e : Expr} {n : ℕ} → expr_at tree d at ≡ got e n → There (expr_at tree (d - 1) (at + 12))
callee_there tree d at m z = let i = call_at tree (word16 tree 2) d at m z in record { thing = i.callee; next = i.mid; is = i.one }

module _ {class limit l : ℕ} {before : Mem} (tree : List ℕ) (d at : ℕ) (sp : Span) (s : sp ≡ span_of tree (at + 2)) (m : letters tree at ≡ marks.EC) where
  call_by : {now : Mem} {r : Step} → ((callee : Expr) (args : Exprs) (mid n : ℕ) → expr_at tree (d - 1) (at + 12) ≡ got callee mid
      → read_exprs (part_count (callee_of callee) (word16 tree (at + 10))) (expr_at tree (d - 1)) (first_part (callee_of callee) at) ≡ got (parts (callee_of callee) callee args) n
      → Did class limit l n steady
      (call_open limit (callee_of callee) (word16 tree (at + 10)) sp >> (compile_exprs limit (parts (callee_of callee) callee args) >> call_close limit (callee_of callee) (word16 tree (at + 10)) sp))
      before now r)
      → Ran class limit l (expr_at tree d at) before now r
  call_by {now} {r} f = record {
    did = λ e n z.
        let i = call_at tree (word16 tree 2) d at m z in
        let k = callee_of i.callee in
        let x = f i.callee i.args i.mid n i.one (parts_read tree (word16 tree 2) (d - 1) at i.one i.many) in
        let c = count_read (expr_at tree (d - 1)) (word16 tree (at + 10)) i.mid i.many in
        by (i.is ∙ ap (λ (w : Span). ExprCall w i.callee i.args) (sym s))
        (like (call_cut limit sp i.callee i.args)
        (subst (λ (j : ℕ). Did class limit l n steady
        (call_open limit (callee_of i.callee) j sp >> (compile_exprs limit (parts (callee_of i.callee) i.callee i.args) >> call_close limit (callee_of i.callee) j sp)) before now r)
        (sym c) x));
  }

  pub call_stop : {now : Mem} {r : Step} {x : Why} → CallOpened class limit l tree at sp before now r → r ≡ Err x → Ran class limit l (expr_at tree d at) before now r
  call_stop o q = call_by (λ callee args mid n z y. halt _ (o.did (d - 1) callee mid z) q)

  module _ {mid : Mem} {r : Step} {from count : ℕ} (o : CallOpened class limit l tree at sp before mid r) (q : r ≡ Ok from) (c : CallParts tree at count) where
    parts_at : (callee : Expr) (args : Exprs) {next n : ℕ} → expr_at tree (d - 1) (at + 12) ≡ got callee next
        → read_exprs (part_count (callee_of callee) (word16 tree (at + 10))) (expr_at tree (d - 1)) (first_part (callee_of callee) at) ≡ got (parts (callee_of callee) callee args) n
        → read_exprs count (expr_at tree (d - 1)) from ≡ got (parts (callee_of callee) callee args) n
    parts_at callee args {next} z y = ap₂ (λ k j. read_exprs k (expr_at tree (d - 1)) j) (c.is (d - 1) callee next z) (valued (o.did (d - 1) callee next z) q) ∙ y

    pub parts_there : {e : Expr} {n : ℕ} → expr_at tree d at ≡ got e n → There (read_exprs count (expr_at tree (d - 1)) from)
    parts_there {n = n} z =
        let i = call_at tree (word16 tree 2) d at m z in
        record { thing = parts (callee_of i.callee) i.callee i.args; next = n; is = parts_at i.callee i.args i.one (parts_read tree (word16 tree 2) (d - 1) at i.one i.many) }

    pub opened_fit : {e : Expr} {n : ℕ} → expr_at tree d at ≡ got e n → Fit mid l limit
    opened_fit z = let i = callee_there tree d at m z in (went (o.did (d - 1) i.thing i.next i.is) q).ahead.fit

    pub opened_on : {e : Expr} {n : ℕ} → expr_at tree d at ≡ got e n → at < from
    opened_on z =
        let i = callee_there tree d at m z in
        let v = valued (o.did (d - 1) i.thing i.next i.is) q in
        let h = first_on (callee_of i.thing) at in
        omega (arith, v, h)

    module _ {late : Mem} {next left : ℕ} (w : Walk class limit l (expr_at tree (d - 1)) count from mid late next left) where
      pub part_stop : {now : Mem} {r' : Step} {x : Why} → 0 < left → Ran class limit l (expr_at tree (d - 1) next) late now r' → r' ≡ Err x → Ran class limit l (expr_at tree d at) before now r'
      part_stop h b q' = call_by (λ callee args k n z y.
          let g = went (o.did (d - 1) callee k z) q in
          same_stop q' (gave_refused_seq g _ (refused_seq (walk_stop w (parts_at callee args z y) h b q') _)))

      pub call_done : {now : Mem} {r' : Step} → left ≤ 0 → CallClosed class limit l tree at next sp late now r' → Ran class limit l (expr_at tree d at) before now r'
      call_done h b = call_by (λ callee args k n z y.
          let g = walk_done w (parts_at callee args z y) h in
          then_on _ (o.did (d - 1) callee k z) q (did_seq g.0 _ (on_to (sym g.1) (b.did (d - 1) callee k z))))

-- ## Children

-- less of the file is left further on
fewer : (len at next t : ℕ) → at < len → at < next → len - at ≡ t → len - next < t
fewer len at next t h g q = omega arith

-- what `compile_expr` asks at a child: fewer bytes are left, and an expression was read there
pub record Child (tree : List ℕ) (t next : ℕ) : Type 0 where
  pub less : length tree - next < t
  pub there : Somewhere tree next

module _ (tree : List ℕ) (d at : ℕ) {e : Expr} {n : ℕ} (z : expr_at tree d at ≡ got e n) {t : ℕ} (q : length tree - at ≡ t) where
  inside : at < length tree
  inside = let b = (any_at tree (word16 tree 2) d at z).bound in omega (arith, b)

  pub child : {next : ℕ} → at < next → There (expr_at tree (d - 1) next) → Child tree t next
  child {next} h x = record { less = fewer (length tree) at next t inside h q; there = record { depth = d - 1; there = x } }

  eleven_on : at < at + 11
  eleven_on = omega arith

  twelve_on : at < at + 12
  twelve_on = omega arith

  pub prefix_child : letters tree at ≡ marks.EP → Child tree t (at + 11)
  prefix_child m = let i = prefix_at tree (word16 tree 2) d at m z in child eleven_on (record { thing = i.rt; next = n; is = i.one })

  pub infix_left : letters tree at ≡ marks.EI → Child tree t (at + 11)
  infix_left m = let i = infix_at tree (word16 tree 2) d at m z in child eleven_on (record { thing = i.lt; next = i.mid; is = i.one })

  pub assign_child : letters tree at ≡ marks.EA → Child tree t (at + 12)
  assign_child m = let i = assign_at tree (word16 tree 2) d at m z in child twelve_on (record { thing = i.value; next = n; is = i.one })

  pub get_child : letters tree at ≡ marks.EG → Child tree t (at + 12)
  get_child m = let i = get_at tree (word16 tree 2) d at m z in child twelve_on (record { thing = i.object; next = n; is = i.one })

  pub set_value : letters tree at ≡ marks.ES → Child tree t (at + 12)
  set_value m = let i = set_at tree (word16 tree 2) d at m z in child twelve_on (record { thing = i.value; next = i.mid; is = i.one })

  module _ {class limit l : ℕ} {before mid : Mem} {r : Step} {v : ℕ} where
    -- a second child stands where the first ended
    pub infix_right : letters tree at ≡ marks.EI → Ran class limit l (expr_at tree (d - 1) (at + 11)) before mid r → r ≡ Ok v → Child tree t v
    infix_right m a w =
        let i = infix_at tree (word16 tree 2) d at m z in
        let p = valued (a.did i.lt i.mid i.one) w in
        let g = later_expr tree (word16 tree 2) (d - 1) (at + 11) i.one in
        child (omega (arith, p, g)) (infix_second tree d at m z a w)

    pub set_object : letters tree at ≡ marks.ES → Ran class limit l (expr_at tree (d - 1) (at + 12)) before mid r → r ≡ Ok v → Child tree t v
    set_object m a w =
        let i = set_at tree (word16 tree 2) d at m z in
        let p = valued (a.did i.value i.mid i.one) w in
        let g = later_expr tree (word16 tree 2) (d - 1) (at + 12) i.one in
        child (omega (arith, p, g)) (set_second tree d at m z a w)

-- after a child: the areas fit, what was there still is, and its end stands further on
module _ {class limit l next v : ℕ} {tree : List ℕ} {before now : Mem} {r : Step} (s : Somewhere tree next)
    (a : (d : ℕ) → Ran class limit l (expr_at tree d next) before now r) (q : r ≡ Ok v) where
  pub ran_fit : Fit now l limit
  ran_fit = (went ((a s.depth).did s.there.thing s.there.next s.there.is) q).ahead.fit

  pub ran_still : (place : ℕ) → place + 2 ≤ code_len before l → place + 2 ≤ code_len now l
  ran_still place h = still place h (went ((a s.depth).did s.there.thing s.there.next s.there.is) q)

  pub ran_on : {at : ℕ} → at < next → at < v
  ran_on h =
      let p = valued ((a s.depth).did s.there.thing s.there.next s.there.is) q in
      let g = later_expr tree (word16 tree 2) s.depth next s.there.is in
      omega (arith, p, g, h)

-- something that follows from both
pub of_both : {A B C : Type 0} → (A → B → C) → A → B → C
of_both f a b = f a b

-- ## Which kind

-- none of the other eight
pub last_kind : (tree : List ℕ) (d at mark : ℕ) {e : Expr} {n : ℕ} → mark ≡ letters tree at → expr_at tree d at ≡ got e n
    → (mark ≡ marks.EL → ⊥) → (mark ≡ marks.EV → ⊥) → (mark ≡ marks.EI → ⊥) → (mark ≡ marks.EP → ⊥) → (mark ≡ marks.EC → ⊥) → (mark ≡ marks.EU → ⊥) → (mark ≡ marks.EA → ⊥) → (mark ≡ marks.EG → ⊥)
    → letters tree at ≡ marks.ES
last_kind tree d at mark q z l v i p c u a g =
    last_mark tree (word16 tree 2) d at z (λ h. l (q ∙ h)) (λ h. v (q ∙ h)) (λ h. i (q ∙ h)) (λ h. p (q ∙ h)) (λ h. c (q ∙ h)) (λ h. u (q ∙ h)) (λ h. a (q ∙ h)) (λ h. g (q ∙ h))
