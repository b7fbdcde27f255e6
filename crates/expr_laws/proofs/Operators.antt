-- Operators: their opcodes, and an infix operator cut at its right side.
use Rattle.std.specs.Prelude.{Ok, Err}
use mathlib.Core.Path.{◌≡◌, refl, sym, ap, subst, ◌∙◌}
use mathlib.Core.Option.{some}
use mathlib.Core.List.{List, ◌∷◌, []}
use mathlib.Core.Logic.{◌⊎◌, inl, inr, ⊎_elim}
use Prim.Native.Nat.{ℕ, zero, suc, ◌+◌, ◌≤◌, ◌<◌}
use native.Mathlib.Omega.{arith}
use native.Mathlib.Nat.{le_trans}
use lib.ListN.{get_or}
use Rattle.rules.specs.Base.{lookup}
use Rattle.rules.specs.declared.Span.{Span}
use Rattle.rules.specs.Tree.{OpInfix, Add, Subtract, Multiply, Divide, Less, LessEqual, Greater, GreaterEqual, Equal, NotEqual, LogicAnd, LogicOr, OpPrefix, Negate, Not}
use Rattle.rules.specs.TreeFile.{infix_ops, prefix_ops}
use Rattle.rules.specs.Op as op
use Rattle.rules.specs.Compiler.{Compiler, Compile, go_on, ◌>>=◌, ◌>>◌, return, emit_op, emit_jump, patch_jump, prefix_op, compile_infix}
use Rattle.tree_laws.proofs.Taken.{row, no_row}
use Rattle.steps.specs.View.{Mem, t_of, Fit, code_len, steady, Gave, Refused, Did, Opened}
use Rattle.steps.proofs.Steps.{went, went_to, placed, stuck, stuck_to, still, gave_bind, gave_seq, gave_refused, gave_refused_seq, refused_bind, refused_seq, by_name}
use Rattle.expr_laws.specs.Exprs.{PrefixOp, InfixOp, before_right, after_right, BegunAs, BegunBy, Begun, Closed}
use Rattle.steps.proofs.Monad.{returned, cut_and, cut_or}
use Rattle.tree_laws.proofs.Statements.{same_some}
use Rattle.steps.specs.Why.{told, Step}
use Rattle.steps.specs.declared.Why.{Why}

-- ## Opcodes

pub prefix_zero : (n : ℕ) → n ≡ 0 → PrefixOp n op.NEGATE
unfolding lookup prefix_ops prefix_op
prefix_zero n e = record { is = λ o h. ap prefix_op (same_some (ap (λ (k : ℕ). lookup k prefix_ops) (sym e) ∙ h)) }

one_left : (n : ℕ) {o : OpPrefix} → lookup n prefix_ops ≡ some o → (n ≡ 0 → ⊥) → n ≡ 1
unfolding prefix_ops
one_left n h z = ⊎_elim (λ q. absurd (z q)) (λ h. ⊎_elim (λ q. q) (λ h. absurd (no_row n h)) (row n 1 Not [] h)) (row n 0 Negate ((1, Not) ∷ []) h)

pub prefix_one : (n : ℕ) → (n ≡ 0 → ⊥) → PrefixOp n op.NOT
unfolding lookup prefix_ops prefix_op
prefix_one n z = record { is = λ o h. ap prefix_op (same_some (ap (λ (k : ℕ). lookup k prefix_ops) (sym (one_left n h z)) ∙ h)) }

-- the opcodes of the ten that leave nothing open
unfoldable pub codes : List ℕ
codes =
    op.ADD ∷ op.SUBTRACT ∷ op.MULTIPLY ∷ op.DIVIDE ∷ op.LESS ∷ op.LESS_EQUAL ∷ op.GREATER ∷ op.GREATER_EQUAL ∷ op.EQUAL ∷ op.NOT_EQUAL ∷ []

record Plain (n : ℕ) (o : OpInfix) : Type 0 where
  before : (limit : ℕ) (span : Span) → before_right limit o span ≡ return 0
  after : (limit place : ℕ) (span : Span) → after_right limit o place span ≡ emit_op limit (get_or codes n 0) span

plain_is : {n : ℕ} {o o' : OpInfix} → o ≡ o' → Plain n o → Plain n o'
plain_is {n} e p = subst (Plain n) e p

plain : (n : ℕ) {o : OpInfix} → lookup n infix_ops ≡ some o → n < 10 → Plain n o
unfolding lookup infix_ops before_right after_right codes
plain zero h b = plain_is (same_some h) (record { before = λ limit span. refl; after = λ limit place span. refl })
plain (suc zero) h b = plain_is (same_some h) (record { before = λ limit span. refl; after = λ limit place span. refl })
plain (suc (suc zero)) h b = plain_is (same_some h) (record { before = λ limit span. refl; after = λ limit place span. refl })
plain (suc (suc (suc zero))) h b = plain_is (same_some h) (record { before = λ limit span. refl; after = λ limit place span. refl })
plain (suc (suc (suc (suc zero)))) h b = plain_is (same_some h) (record { before = λ limit span. refl; after = λ limit place span. refl })
plain (suc (suc (suc (suc (suc zero))))) h b = plain_is (same_some h) (record { before = λ limit span. refl; after = λ limit place span. refl })
plain (suc (suc (suc (suc (suc (suc zero)))))) h b = plain_is (same_some h) (record { before = λ limit span. refl; after = λ limit place span. refl })
plain (suc (suc (suc (suc (suc (suc (suc zero))))))) h b = plain_is (same_some h) (record { before = λ limit span. refl; after = λ limit place span. refl })
plain (suc (suc (suc (suc (suc (suc (suc (suc zero)))))))) h b = plain_is (same_some h) (record { before = λ limit span. refl; after = λ limit place span. refl })
plain (suc (suc (suc (suc (suc (suc (suc (suc (suc zero))))))))) h b = plain_is (same_some h) (record { before = λ limit span. refl; after = λ limit place span. refl })
plain (suc (suc (suc (suc (suc (suc (suc (suc (suc (suc n)))))))))) h b = absurd (omega arith)

pub infix_opcode : (n r : ℕ) → n < 10 → r ≡ get_or codes n 0 → InfixOp n r
infix_opcode n r b e = record { is = λ o h limit place span. (plain n h b).after limit place span ∙ ap (λ (k : ℕ). emit_op limit k span) (sym e) }

is_and : (n : ℕ) {o : OpInfix} → lookup n infix_ops ≡ some o → n ≡ 10 → LogicAnd ≡ o
unfolding lookup infix_ops
is_and n h e = same_some (ap (λ (k : ℕ). lookup k infix_ops) (sym e) ∙ h)

eleven : (n : ℕ) {o : OpInfix} → lookup n infix_ops ≡ some o → 10 ≤ n → (n ≡ 10) ⊎ (n ≡ 11)
unfolding infix_ops
eleven n h b =
    ⊎_elim (λ (q : n ≡ 0). absurd (omega arith)) (λ h.
    ⊎_elim (λ (q : n ≡ 1). absurd (omega arith)) (λ h.
    ⊎_elim (λ (q : n ≡ 2). absurd (omega arith)) (λ h.
    ⊎_elim (λ (q : n ≡ 3). absurd (omega arith)) (λ h.
    ⊎_elim (λ (q : n ≡ 4). absurd (omega arith)) (λ h.
    ⊎_elim (λ (q : n ≡ 5). absurd (omega arith)) (λ h.
    ⊎_elim (λ (q : n ≡ 6). absurd (omega arith)) (λ h.
    ⊎_elim (λ (q : n ≡ 7). absurd (omega arith)) (λ h.
    ⊎_elim (λ (q : n ≡ 8). absurd (omega arith)) (λ h.
    ⊎_elim (λ (q : n ≡ 9). absurd (omega arith)) (λ h.
    ⊎_elim inl (λ h.
    ⊎_elim inr (λ h. absurd (no_row n h))
    (row _ _ _ _ h)) (row _ _ _ _ h)) (row _ _ _ _ h)) (row _ _ _ _ h)) (row _ _ _ _ h)) (row _ _ _ _ h))
    (row _ _ _ _ h)) (row _ _ _ _ h)) (row _ _ _ _ h)) (row _ _ _ _ h)) (row _ _ _ _ h)) (row _ _ _ _ h)

is_or : (n : ℕ) {o : OpInfix} → lookup n infix_ops ≡ some o → n ≡ 11 → LogicOr ≡ o
unfolding lookup infix_ops
is_or n h e = same_some (ap (λ (k : ℕ). lookup k infix_ops) (sym e) ∙ h)

-- ## The two halves make the whole

pub infix_cut : (limit : ℕ) (o : OpInfix) (rt : Compile Unit) (span : Span) (s : Compiler)
    → compile_infix limit o rt span s ≡ (before_right limit o span >>= λ place. rt >> after_right limit o place span) s
unfolding compile_infix before_right after_right ◌>>=◌ ◌>>◌ return go_on
infix_cut limit Add rt span s = refl
infix_cut limit Subtract rt span s = refl
infix_cut limit Multiply rt span s = refl
infix_cut limit Divide rt span s = refl
infix_cut limit Less rt span s = refl
infix_cut limit LessEqual rt span s = refl
infix_cut limit Greater rt span s = refl
infix_cut limit GreaterEqual rt span s = refl
infix_cut limit Equal rt span s = refl
infix_cut limit NotEqual rt span s = refl
infix_cut limit LogicAnd rt span s = cut_and (λ place. rt >> patch_jump place span) (emit_jump limit op.JUMP_IF_FALSE span s) (emit_op limit op.POP span)
infix_cut limit LogicOr rt span s = cut_or (λ place. rt >> patch_jump place span) (emit_jump limit op.JUMP_IF_FALSE span s) (emit_jump limit op.JUMP span) (λ i. patch_jump i span)
    (emit_op limit op.POP span)

-- ## Before the right side

module _ {class limit l n : ℕ} where
  begun_by : (span : Span) {o o' : OpInfix} {before now : Mem} {r : Step} → o ≡ o' → BegunBy class limit l n (before_right limit o span) before now r
      → BegunBy class limit l n (before_right limit o' span) before now r
  begun_by span {before = before} {now = now} {r = r} e d = subst (λ (x : OpInfix). BegunBy class limit l n (before_right limit x span) before now r) e d

  stopped_by : {m : Compile ℕ} {before now : Mem} {r : Step} {x : Why} → r ≡ Err x → Refused class l m before (told (t_of now) x) → BegunBy class limit l n m before now r
  stopped_by {m} {before} {now} q h = record { does = subst (λ (s : Step). BegunAs class limit l n m before now s) (sym q) h }

  -- the last step, and then the place
  last_as : (place : ℕ) {m : Compile Unit} {mid now : Mem} → place + 2 ≤ code_len mid l → (r : Step) → Did class limit l place steady m mid now r
      → BegunBy class limit l n (m >> return place) mid now r
  last_as place {m} {mid} {now} h (Ok v) d =
      let g = d.does.0 in
      record {
        does = (
          subst (λ (k : ℕ). Gave class limit l steady (m >> return place) k mid now) (sym d.does.1) (gave_seq g (return place) (returned place g.ahead.fit)),
          λ _. subst (λ (k : ℕ). k + 2 ≤ code_len now l) (sym d.does.1) (le_trans h g.ahead.up),
        );
      }
  last_as place h (Err x) d = record { does = refused_seq d.does (return place) }

  bind_as : {A : Type 0} {m : Compile A} {v : A} {before mid now : Mem} → Gave class limit l steady m v before mid → (next : A → Compile ℕ) → (r : Step) → BegunBy class limit l n (next v) mid now r
      → BegunBy class limit l n (m >>= next) before now r
  bind_as g next (Ok v) d = record { does = (gave_bind g next d.does.0, d.does.1) }
  bind_as g next (Err x) d = record { does = gave_refused g next d.does }

  seq_as : {A : Type 0} {m : Compile A} {v : A} {before mid now : Mem} → Gave class limit l steady m v before mid → (next : Compile ℕ) → (r : Step) → BegunBy class limit l n next mid now r
      → BegunBy class limit l n (m >> next) before now r
  seq_as g next (Ok v) d = record { does = (gave_seq g next d.does.0, d.does.1) }
  seq_as g next (Err x) d = record { does = gave_refused_seq g next d.does }

  pub begun_plain : (span : Span) {m : Mem} → n < 10 → Fit m l limit → Begun class limit l n span m m (Ok 0)
  begun_plain span {m} b fit = record {
    did = λ o h. record {
      does =
          (subst (λ x. Gave class limit l steady x 0 m m) (sym ((plain n h b).before limit span)) (returned 0 fit), λ (q : 10 ≤ n). absurd (omega arith));
    };
  }

  pub begun_stop : (span : Span) {before now : Mem} {r : Step} {x : Why} → 10 ≤ n → Opened class limit l steady (emit_jump limit op.JUMP_IF_FALSE span) before now r → r ≡ Err x
      → Begun class limit l n span before now r
  unfolding before_right
  begun_stop span b a q = record {
    did = λ o h.
        ⊎_elim
        (λ e. begun_by span (is_and n h e) (stopped_by q (refused_bind (stuck_to a q) _)))
        (λ e. begun_by span (is_or n h e) (stopped_by q (refused_bind (stuck_to a q) _)))
        (eleven n h b);
  }

  pub begun_and : (span : Span) {before mid now : Mem} {r r' : Step} {j : ℕ} → n ≡ 10 → Opened class limit l steady (emit_jump limit op.JUMP_IF_FALSE span) before mid r → r ≡ Ok j
      → Did class limit l j steady (emit_op limit op.POP span) mid now r' → Begun class limit l n span before now r'
  unfolding before_right
  begun_and span {r' = r'} {j = j} e a q d = record { did = λ o h. begun_by span (is_and n h e) (bind_as (went_to a q) _ r' (last_as j (placed a q) r' d)) }

  or_as : (span : Span) {before now : Mem} {r : Step} → 10 ≤ n → (n ≡ 10 → ⊥) → BegunBy class limit l n (before_right limit LogicOr span) before now r → Begun class limit l n span before now r
  or_as span b z d = record { did = λ o h. ⊎_elim (λ e. absurd (z e)) (λ e. begun_by span (is_or n h e) d) (eleven n h b) }

  pub begun_or_stop : (span : Span) {before mid now : Mem} {r r' : Step} {j : ℕ} {x : Why} → 10 ≤ n → (n ≡ 10 → ⊥)
      → Opened class limit l steady (emit_jump limit op.JUMP_IF_FALSE span) before mid r → r ≡ Ok j
      → Opened class limit l steady (emit_jump limit op.JUMP span) mid now r' → r' ≡ Err x → Begun class limit l n span before now r'
  unfolding before_right
  begun_or_stop span {r' = r'} b z a q d q' = or_as span b z (bind_as (went_to a q) _ r' (stopped_by q' (refused_bind (stuck_to d q') _)))

  pub begun_or_stop_2 : (span : Span) {before mid late now : Mem} {r r' r'' : Step} {i j k : ℕ} {x : Why} → 10 ≤ n → (n ≡ 10 → ⊥)
      → Opened class limit l steady (emit_jump limit op.JUMP_IF_FALSE span) before mid r → r ≡ Ok i
      → Opened class limit l steady (emit_jump limit op.JUMP span) mid late r' → r' ≡ Ok j → Did class limit l k steady (patch_jump i span) late now r'' → r'' ≡ Err x
      → Begun class limit l n span before now r''
  unfolding before_right
  begun_or_stop_2 span {r'' = r''} b z a q d q' f q'' = or_as span b z (bind_as (went_to a q) _ r'' (bind_as (went_to d q') _ r'' (stopped_by q'' (refused_seq (stuck f q'') _))))

  pub begun_or : (span : Span) {before mid late last now : Mem} {r r' r'' r''' : Step} {i j k v : ℕ} → 10 ≤ n → (n ≡ 10 → ⊥)
      → Opened class limit l steady (emit_jump limit op.JUMP_IF_FALSE span) before mid r → r ≡ Ok i
      → Opened class limit l steady (emit_jump limit op.JUMP span) mid late r' → r' ≡ Ok j → Did class limit l k steady (patch_jump i span) late last r'' → r'' ≡ Ok v
      → Did class limit l j steady (emit_op limit op.POP span) last now r''' → Begun class limit l n span before now r'''
  unfolding before_right
  begun_or span {r''' = r'''} {j = j} b z a q d q' f q'' g =
      or_as span b z (bind_as (went_to a q) _ r''' (bind_as (went_to d q') _ r''' (seq_as (went f q'') _ r''' (last_as j (still j (placed d q') (went f q'')) r''' g))))

  -- ## After it

  pub closed_plain : (place next : ℕ) (span : Span) {before now : Mem} {r : Step} (byte : ℕ) → InfixOp n byte → Did class limit l next steady (emit_op limit byte span) before now r
      → Closed class limit l n place next span before now r
  closed_plain place next span byte i d = record { did = λ o h. by_name (sym (i.is o h limit place span)) d }

  pub closed_jump : (place next : ℕ) (span : Span) {before now : Mem} {r : Step} → 10 ≤ n → Did class limit l next steady (patch_jump place span) before now r
      → Closed class limit l n place next span before now r
  unfolding after_right
  closed_jump place next span {before} {now} {r} b d = record {
    did = λ o h.
        ⊎_elim
        (λ e. subst (λ (x : OpInfix). Did class limit l next steady (after_right limit x place span) before now r) (is_and n h e) d)
        (λ e. subst (λ (x : OpInfix). Did class limit l next steady (after_right limit x place span) before now r) (is_or n h e) d)
        (eleven n h b);
  }
