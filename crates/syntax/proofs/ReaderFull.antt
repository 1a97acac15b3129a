-- What the grammar says of some tokens, the reader finds, if what stands behind them cannot belong to them and the fuel is enough:
-- words, atoms, rows of atoms, terms and scripts.
use Rattle.std.proofs.Common.{◌≡◌, ℕ, zero, suc, ◌<◌, ◌≤◌, Bool, not, ◌&&◌, T, leb, List, [], ◌∷◌, ◌++◌, length, sym, refl, ap, ◌∙◌, subst as tr, append_assoc, arith, length-append}
use mathlib.Core.Option.{Option, some, none}
use Rattle.syntax.specs.Surface.{Name, Expr, e_name, e_at, e_pi, e_app}
use Rattle.syntax.specs.Grammar.{k_type, k_by, t_lp, t_rp, t_lc, t_rc, t_semi, t_colon, t_dot, t_at, t_hole, t_so, t_to, is_name, is_indexed_lem, IsNumber, IsDots, x_one, x_two, IsExpr, x_tighter, x_fun, x_pi, x_arrow, x_name, x_at, x_full, x_sort, x_hole, x_brackets, x_by, IsScript, x_exact, x_intro, x_have, x_apply, IsArgs, x_no_args, x_arg}
use Rattle.syntax.specs.Reader.{Readers, then, eat, read_name, read_number, read_binder, read_indexed, read_atom, read_row, read_arrow, read_term, read_args, read_script, readers, starts_atom_lem}
use Rattle.syntax.proofs.Gives.{then_is, option_is, option_not}
use Rattle.syntax.proofs.Same.{to_true, to_false, and_left, and_right}
use Rattle.syntax.proofs.FirstToken.{Run, r_none, r_more, Spine, spine, spine_split, begins, eat-none, no_word, name_indexed, atom_starts, atom_no_binder, atom_no_fun, run_no_dot}
use Rattle.syntax.proofs.ReaderShrinks.{atom_shrinks}

-- Names, numbers, binders.
pub name_full : (x : Name) (ts : List Name) → T (is_name x) → read_name (x ∷ ts) ≡ some (x, ts)
name_full x ts h = rw (to_true (is_name x) h) refl

pub number_full : (w : Name) (ts : List Name) {n : ℕ} → IsNumber w n → read_number (w ∷ ts) ≡ some (n, ts)
number_full w ts h = rw (to_true (leb 1 (length w) && leb (length w) 3) h.0, h.1) refl

pub binder_full : (x : Name) (ts : List Name) → T (is_name x) → read_binder (t_lp ∷ x ∷ t_colon ∷ ts) ≡ some (x, ts)
binder_full x ts h = rw (to_true (is_name x) h) refl

-- An application ends before r: no dot and no atom. A term ends: no arrow either. A script ends: no brace opens.
abbrev pub stops : List Name → Bool
stops r = not (begins t_dot r) && not (starts_atom_lem r)

abbrev pub ends : List Name → Bool
ends r = not (begins t_to r) && stops r

abbrev pub shut : List Name → Bool
shut r = not (begins t_lc r)

-- A word.
word_next : (q : Readers) (x : Name) (ts : List Name) → T (is_indexed_lem x) → read_atom q (x ∷ ts) ≡ read_indexed x ts
word_next q x ts h = option_not _ _ _ (other t_lp tt) (option_not _ _ _ (other t_at tt) (option_not _ _ _ (other k_type tt) (option_not _ _ _ (other t_hole tt)
    (option_not _ _ _ (other k_by tt) (rw (to_true (is_indexed_lem x) h) refl)))))
  where
    other : (k : Name) → T (not (is_indexed_lem k)) → eat k (x ∷ ts) ≡ none
    other k i = eat-none k (x ∷ ts) (no_word x k h i)

plain_full : (x : Name) (r : List Name) → T (is_name x) → T (not (begins t_dot r)) → read_indexed x r ≡ some (e_name x, r)
plain_full x r h e = rw (eat-none t_dot r e, to_true (is_name x) h) refl

dots_full : (x : Name) {s : List Name} {ns : List ℕ} → IsDots s ns → (r : List Name) → T (not (begins t_dot r)) → read_indexed x (s ++ r) ≡ some (e_at x ns, r)
dots_full x (x_one {w} i) r e = then_is _ _ (number_full w r i) (rw (eat-none t_dot r e) refl)
dots_full x (x_two {w} {v} i j) r e = then_is _ _ (number_full w (t_dot ∷ v ∷ r) i) (then_is _ _ (number_full v r j) refl)

-- What stands behind some tokens is no longer than they and it together.
pub back : (s u : List Name) {ts : List Name} → ts ≡ s ++ u → length u ≤ length ts
back s u e = omega (arith, ap length e, length-append s u)

-- The readers that call one another, with fuel n.
pub record Full (n : ℕ) : Type 0 where
  pub term : (ts s r : List Name) (a : Expr) → IsExpr 0 s a → T (ends r) → ts ≡ s ++ r → length ts < n → (readers n).term ts ≡ some (a, r)
  pub row : (ts s r : List Name) (f a : Expr) → Run s f a → T (stops r) → ts ≡ s ++ r → length ts < n → (readers n).row f ts ≡ some (a, r)
  pub script : (ts s r : List Name) (a : Expr) → IsScript s a → T (shut r) → ts ≡ s ++ r → length ts < n → (readers n).script ts ≡ some (a, r)
  pub args : (ts s r : List Name) (a b : Expr) → IsArgs s a b → T (shut r) → ts ≡ s ++ r → length ts < n → (readers n).args a ts ≡ some (b, r)

module _ (n : ℕ) (h : Full n) where
  atom_next : {s : List Name} {a : Expr} → IsExpr 2 s a → (r : List Name) → T (not (begins t_dot r)) → length (s ++ r) < suc n → read_atom (readers n) (s ++ r) ≡ some (a, r)
  atom_next (x_tighter i d) r e l = absurd (let f : ⊥ = omega arith in f)
  atom_next (x_name {x} i) r e l = word_next (readers n) x r (name_indexed x i) ∙ plain_full x r i e
  atom_next (x_at {x} {s} i d) r e l = word_next (readers n) x (s ++ r) i ∙ dots_full x d r e
  atom_next (x_full {x} i) r e l = then_is _ _ (name_full x r i) refl
  atom_next (x_sort {w} i) r e l = then_is _ _ (number_full w r i) refl
  atom_next x_hole r e l = refl
  atom_next (x_brackets {s} {a} d) r e l = then_is _ _ (h.term _ s (t_rp ∷ r) a d tt (append_assoc s (t_rp ∷ []) r) (omega arith)) refl
  atom_next (x_by {s} {a} d) r e l = then_is _ _ (h.script _ s (t_rc ∷ r) a d tt (append_assoc s (t_rc ∷ []) r) (omega arith)) refl

  row_next : {s : List Name} {f a : Expr} → Run s f a → (r : List Name) → T (stops r) → length (s ++ r) < suc n → read_row (readers n) f (s ++ r) ≡ some (a, r)
  row_next r_none r e l = rw (to_false (starts_atom_lem r) (and_right (not (begins t_dot r)) _ e)) refl
  row_next (r_more {s} {t} {f} {a} {b} d u) r e l = rw (append_assoc s t r) (rw (to_true (starts_atom_lem (s ++ (t ++ r))) (atom_starts d (t ++ r))) (then_is _ _ atom rest))
    where
      atom : read_atom (readers n) (s ++ (t ++ r)) ≡ some (a, t ++ r)
      atom = atom_next d (t ++ r) (run_no_dot u r (and_left _ _ e)) (rw (append_assoc s t r) at l)

      rest : (readers n).row (e_app f a) (t ++ r) ≡ some (b, r)
      rest = h.row _ t r _ _ u e refl (omega (arith, atom_shrinks n (s ++ (t ++ r)) (t ++ r) a atom, ap length (append_assoc s t r)))

  -- An application, and what is done with it and the tokens behind it.
  uses_full : {s : List Name} {a : Expr} → IsExpr 1 s a → (r : List Name) → T (stops r) → length (s ++ r) < suc n
      → (k : Expr → List Name → Option (Expr × List Name)) (z : Option (Expr × List Name)) → k a r ≡ z
      → then (read_atom (readers n) (s ++ r)) (λ b us. then ((readers n).row b us) k) ≡ z
  uses_full {s} {a} d r e l k z after = tr (λ w. then (read_atom (readers n) w) (λ b us. then ((readers n).row b us) k) ≡ z) (sym split) (then_is _ _ atom (then_is _ _ rest after))
    where
      p : Spine s a
      p = spine d

      split : s ++ r ≡ p.head ++ (p.tail ++ r)
      split = spine_split p r

      atom : read_atom (readers n) (p.head ++ (p.tail ++ r)) ≡ some (p.first, p.tail ++ r)
      atom = atom_next p.atom (p.tail ++ r) (run_no_dot p.run r (and_left _ _ e)) (omega (arith, ap length split))

      rest : (readers n).row p.first (p.tail ++ r) ≡ some (a, r)
      rest = h.row _ p.tail r p.first a p.run e refl (omega (arith, ap length split, atom_shrinks n (p.head ++ (p.tail ++ r)) (p.tail ++ r) p.first atom))

  arrow_next : {s : List Name} {a : Expr} → IsExpr 1 s a → (r : List Name) → read_term (readers n) (s ++ r) ≡ read_arrow (readers n) (s ++ r)
  arrow_next {s} {a} d r = tr (λ w. read_term (readers n) w ≡ read_arrow (readers n) w) (sym split)
      (option_not _ _ _ (atom_no_fun p.atom (p.tail ++ r)) (option_not _ _ _ (atom_no_binder p.atom (p.tail ++ r)) refl))
    where
      p : Spine s a
      p = spine d

      split : s ++ r ≡ p.head ++ (p.tail ++ r)
      split = spine_split p r

  term_next : {s : List Name} {a : Expr} → IsExpr 0 s a → (r : List Name) → T (ends r) → length (s ++ r) < suc n → read_term (readers n) (s ++ r) ≡ some (a, r)
  term_next (x_tighter i d) r e l = arrow_next d r ∙ uses_full d r (and_right (not (begins t_to r)) _ e) l _ _ (option_not _ _ _ (eat-none t_to r (and_left _ _ e)) refl)
  term_next (x_fun {x} {s} {t} {a} {b} i d c) r e l = then_is _ _ (binder_full x ((s ++ (t_rp ∷ t_so ∷ t)) ++ r) i)
      (then_is _ _ (h.term _ s (t_rp ∷ t_so ∷ (t ++ r)) a d tt split (omega arith)) (then_is _ _ (h.term _ t r b c e refl (omega (arith, back s (t_rp ∷ t_so ∷ (t ++ r)) split))) refl))
    where
      split : (s ++ (t_rp ∷ t_so ∷ t)) ++ r ≡ s ++ (t_rp ∷ t_so ∷ (t ++ r))
      split = append_assoc s (t_rp ∷ t_so ∷ t) r
  term_next (x_pi {x} {s} {t} {a} {b} i d c) r e l = option_is _ _ _ (binder_full x ((s ++ (t_rp ∷ t_to ∷ t)) ++ r) i)
      (then_is _ _ (h.term _ s (t_rp ∷ t_to ∷ (t ++ r)) a d tt split (omega arith)) (then_is _ _ (h.term _ t r b c e refl (omega (arith, back s (t_rp ∷ t_to ∷ (t ++ r)) split))) refl))
    where
      split : (s ++ (t_rp ∷ t_to ∷ t)) ++ r ≡ s ++ (t_rp ∷ t_to ∷ (t ++ r))
      split = append_assoc s (t_rp ∷ t_to ∷ t) r
  term_next (x_arrow {s} {t} {a} {b} d c) r e l = tr (λ w. read_term (readers n) w ≡ some (e_pi [] a b, r)) (sym split)
      (arrow_next d (t_to ∷ (t ++ r)) ∙ uses_full d (t_to ∷ (t ++ r)) tt (omega (arith, ap length split)) _ _
      (then_is _ _ (h.term _ t r b c e refl (omega (arith, back s (t_to ∷ (t ++ r)) split))) refl))
    where
      split : (s ++ (t_to ∷ t)) ++ r ≡ s ++ (t_to ∷ (t ++ r))
      split = append_assoc s (t_to ∷ t) r

  script_next : {s : List Name} {a : Expr} → IsScript s a → (r : List Name) → T (shut r) → length (s ++ r) < suc n → read_script (readers n) (s ++ r) ≡ some (a, r)
  script_next (x_exact {s} {a} d) r e l = then_is _ _ (h.term _ s (t_semi ∷ r) a d tt (append_assoc s (t_semi ∷ []) r) (omega arith)) refl
  script_next (x_intro {x} {s} {a} i p) r e l = then_is _ _ (name_full x (t_semi ∷ (s ++ r)) i) (then_is _ _ (h.script _ s r a p e refl (omega arith)) refl)
  script_next (x_have {x} {s} {t} {u} {a} {b} {c} i d p q) r e l = then_is _ _ (name_full x (t_colon ∷ ((s ++ (t_lc ∷ (t ++ (t_rc ∷ u)))) ++ r)) i)
      (then_is _ _ (h.term _ s (t_lc ∷ ((t ++ (t_rc ∷ u)) ++ r)) a d tt split (omega arith))
      (then_is _ _ (h.script _ t (t_rc ∷ (u ++ r)) b p tt parts (omega (arith, back s (t_lc ∷ ((t ++ (t_rc ∷ u)) ++ r)) split)))
      (then_is _ _ (h.script _ u r c q e refl (omega (arith, back s (t_lc ∷ ((t ++ (t_rc ∷ u)) ++ r)) split, back t (t_rc ∷ (u ++ r)) parts))) refl)))
    where
      split : (s ++ (t_lc ∷ (t ++ (t_rc ∷ u)))) ++ r ≡ s ++ (t_lc ∷ ((t ++ (t_rc ∷ u)) ++ r))
      split = append_assoc s (t_lc ∷ (t ++ (t_rc ∷ u))) r

      parts : (t ++ (t_rc ∷ u)) ++ r ≡ t ++ (t_rc ∷ (u ++ r))
      parts = append_assoc t (t_rc ∷ u) r
  script_next (x_apply {s} {t} {a} {b} d p) r e l = then_is _ _ (h.term _ s (t_semi ∷ (t ++ r)) a d tt split (omega arith))
      (h.args _ t r a b p e refl (omega (arith, back s (t_semi ∷ (t ++ r)) split)))
    where
      split : (s ++ (t_semi ∷ t)) ++ r ≡ s ++ (t_semi ∷ (t ++ r))
      split = append_assoc s (t_semi ∷ t) r

  args_next : {s : List Name} {a b : Expr} → IsArgs s a b → (r : List Name) → T (shut r) → length (s ++ r) < suc n → read_args (readers n) a (s ++ r) ≡ some (b, r)
  args_next x_no_args r e l = option_not _ _ _ (eat-none t_lc r e) refl
  args_next (x_arg {s} {t} {a} {b} {c} p q) r e l = then_is _ _ (h.script _ s (t_rc ∷ (t ++ r)) b p tt split (omega arith))
      (h.args _ t r (e_app a b) c q e refl (omega (arith, back s (t_rc ∷ (t ++ r)) split)))
    where
      split : (s ++ (t_rc ∷ t)) ++ r ≡ s ++ (t_rc ∷ (t ++ r))
      split = append_assoc s (t_rc ∷ t) r

pub full : (n : ℕ) → Full n
full zero = record {
  term = λ ts s r a d e p l. absurd (let f : ⊥ = omega arith in f);
  row = λ ts s r f a d e p l. absurd (let f : ⊥ = omega arith in f);
  script = λ ts s r a d e p l. absurd (let f : ⊥ = omega arith in f);
  args = λ ts s r a b d e p l. absurd (let f : ⊥ = omega arith in f);
}
full (suc n) = record {
  term = λ ts s r a d e p l. tr (λ w. read_term (readers n) w ≡ some (a, r)) (sym p) (term_next n (full n) d r e (omega (arith, ap length p)));
  row = λ ts s r f a d e p l. tr (λ w. read_row (readers n) f w ≡ some (a, r)) (sym p) (row_next n (full n) d r e (omega (arith, ap length p)));
  script = λ ts s r a d e p l. tr (λ w. read_script (readers n) w ≡ some (a, r)) (sym p) (script_next n (full n) d r e (omega (arith, ap length p)));
  args = λ ts s r a b d e p l. tr (λ w. read_args (readers n) a w ≡ some (b, r)) (sym p) (args_next n (full n) d r e (omega (arith, ap length p)));
}

-- The same, of the tokens and what stands behind them.
pub term_full : (n : ℕ) (s : List Name) (a : Expr) (r : List Name) → IsExpr 0 s a → T (ends r) → length (s ++ r) < n → (readers n).term (s ++ r) ≡ some (a, r)
term_full n s a r d e l = (full n).term (s ++ r) s r a d e refl l

pub script_full : (n : ℕ) (s : List Name) (a : Expr) (r : List Name) → IsScript s a → T (shut r) → length (s ++ r) < n → (readers n).script (s ++ r) ≡ some (a, r)
script_full n s a r d e l = (full n).script (s ++ r) s r a d e refl l

pub args_full : (n : ℕ) (s : List Name) (a b : Expr) (r : List Name) → IsArgs s a b → T (shut r) → length (s ++ r) < n → (readers n).args a (s ++ r) ≡ some (b, r)
args_full n s a b r d e l = (full n).args (s ++ r) s r a b d e refl l
