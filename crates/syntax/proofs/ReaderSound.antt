-- What a reader finds is what the grammar says of the tokens that it passed over.
-- First as statements on whole readers, at the end as statements on what is read.
use Rattle.std.proofs.Common.{◌≡◌, ℕ, zero, suc, ◌&&◌, T, leb, List, [], ◌∷◌, ◌++◌, length, sym, refl, ap, ◌∙◌, subst as tr, append_assoc, append-nil, arith}
use mathlib.Core.Option.{some}
use Rattle.syntax.specs.Surface.{Name, same, Expr, e_app, Param, ConDecl, Decl, d_def}
use Rattle.syntax.specs.Grammar.{k_fun, k_type, k_def, k_theorem, k_axiom, k_data, k_hide, k_again, k_by, k_intro, k_exact, k_have, k_apply, t_lp, t_rp, t_lc, t_rc, t_semi, t_colon, t_dot, t_at, t_hole, t_is, t_so, t_to, is_name, is_indexed_lem, IsNumber, x_one, x_two, IsExpr, x_tighter, x_fun, x_pi, x_arrow, x_app, x_name, x_at, x_full, x_sort, x_hole, x_brackets, x_by, IsScript, x_exact, x_intro, x_have, x_apply, IsArgs, x_no_args, x_arg, IsParams, x_no_params, x_param, IsCons, x_no_cons, x_con, IsHide, x_no_hide, x_hide, IsDecl, x_def, x_theorem, x_axiom, x_data, IsDecls, x_no_decls, x_decl}
use Rattle.syntax.specs.Reader.{Readers, eat, read_name, number_of, read_number, read_binder, read_dots, read_word, read_atom, read_row, read_arrow, read_pi, read_lam, read_term, read_args, read_intro, read_have, read_exact, read_apply, read_script, readers, read_params, read_cons, read_hide, read_def, read_axiom, read_data, read_decl, read_decls, starts_atom_lem}
use Rattle.syntax.proofs.Gives.{Gives, at_none, at_some, by_then, by_bind, by_option, by_cond, so}
use Rattle.syntax.proofs.Same.{same_is}

-- The tokens ts begin with some that R says are the value, and the rest is what is left.
abbrev Front : {A : Type 0} → (List Name → A → Type 0) → List Name → (A × List Name) → Type 0
Front R ts p = (s : List Name) × (ts ≡ s ++ p.1) × R s p.0

eat_front : (k : Name) (ts : List Name) → Gives (eat k ts) (λ us. ts ≡ k ∷ us)
eat_front k [] = at_none
eat_front k (w ∷ ts) = by_cond (same w k) (λ h. at_some (ap {B = List Name} (λ z. z ∷ ts) (same_is w k h))) (λ h. at_none)

name_front : (ts : List Name) → Gives (read_name ts) (λ p. (ts ≡ p.0 ∷ p.1) × T (is_name p.0))
name_front [] = at_none
name_front (w ∷ ts) = by_cond (is_name w) (λ h. at_some (refl, h)) (λ h. at_none)

number_front : (ts : List Name) → Gives (read_number ts) (λ p. (w : Name) × (ts ≡ w ∷ p.1) × IsNumber w p.0)
number_front [] = at_none
number_front (w ∷ ts) = by_option {P = λ n. IsNumber w n} {o = number_of w}
    (by_cond (leb 1 (length w) && leb (length w) 3) (λ h. record { found = λ n e. (h, e) }) (λ h. at_none)) at_none λ n i. at_some (w, refl, i)

binder_front : (ts : List Name) → Gives (read_binder ts) (λ p. (ts ≡ t_lp ∷ p.0 ∷ t_colon ∷ p.1) × T (is_name p.0))
binder_front ts = by_bind (eat_front _ ts) λ us p. by_then (name_front us) λ x vs q. by_bind (eat_front _ vs) λ ws r. at_some (cc, q.1)

dots_front : (w : Name) (ts : List Name) → T (is_indexed_lem w) → Gives (read_dots w ts) (λ p. Front (IsExpr 2) (w ∷ t_dot ∷ ts) p)
dots_front w ts i = by_then (number_front ts) λ n us p. by_option (eat_front _ us)
    (at_some (w ∷ t_dot ∷ p.0 ∷ [], (cc), x_at i (x_one p.2)))
    λ vs q. by_then (number_front vs) λ m ws r. at_some (w ∷ t_dot ∷ p.0 ∷ t_dot ∷ r.0 ∷ [], (cc), x_at i (x_two p.2 r.2))

word_front : (ts : List Name) → Gives (read_word ts) (Front (IsExpr 2) ts)
word_front [] = at_none
word_front (w ∷ ts) = by_cond (is_indexed_lem w) (λ h. by_option (eat_front _ ts)
    (by_cond (is_name w) (λ i. at_some (w ∷ [], refl, x_name i)) (λ i. at_none))
    (λ us p. so (dots_front w us h) λ q u. (u.0, (cc), u.2))) (λ h. at_none)

-- The readers that call one another. A row behind f makes a longer application of f.
abbrev IsRow : Expr → List Name → Expr → Type 0
IsRow f s a = (t : List Name) → IsExpr 1 t f → IsExpr 1 (t ++ s) a

record Sound (r : Readers) : Type 0 where
  term : (ts : List Name) → Gives (r.term ts) (Front (IsExpr 0) ts)
  row : (f : Expr) (ts : List Name) → Gives (r.row f ts) (Front (IsRow f) ts)
  script : (ts : List Name) → Gives (r.script ts) (Front IsScript ts)
  args : (a : Expr) (ts : List Name) → Gives (r.args a ts) (Front (λ s b. IsArgs s a b) ts)

module _ (r : Readers) (h : Sound r) where
  atom_front : (ts : List Name) → Gives (read_atom r ts) (Front (IsExpr 2) ts)
  atom_front ts =
      by_option (eat_front _ ts)
      (by_option (eat_front _ ts)
      (by_option (eat_front _ ts)
      (by_option (eat_front _ ts)
      (by_option (eat_front _ ts)
      (word_front ts)
      (λ us p. by_bind (eat_front _ us) λ vs q. by_then (h.script vs) λ a ws s. by_bind (eat_front _ ws) λ xs t.
      at_some (k_by ∷ t_lc ∷ (s.0 ++ (t_rc ∷ [])), cc (append_assoc s.0 (t_rc ∷ []) xs), x_by s.2)))
      (λ us p. at_some (t_hole ∷ [], p, x_hole)))
      (λ us p. by_then (number_front us) λ n vs q. at_some (k_type ∷ q.0 ∷ [], (cc), x_sort q.2)))
      (λ us p. by_then (name_front us) λ x vs q. at_some (t_at ∷ x ∷ [], (cc), x_full q.1)))
      (λ us p. by_then (h.term us) λ a vs q. by_bind (eat_front _ vs) λ ws s.
      at_some (t_lp ∷ (q.0 ++ (t_rp ∷ [])), cc (append_assoc q.0 (t_rp ∷ []) ws), x_brackets q.2))

  row_front : (f : Expr) (ts : List Name) → Gives (read_row r f ts) (Front (IsRow f) ts)
  row_front f ts = by_cond (starts_atom_lem ts)
      (λ i. by_then (atom_front ts) λ a us p. so (h.row (e_app f a) us) λ q u.
      (p.0 ++ u.0, cc (append_assoc p.0 u.0 q.1), λ t d. tr (λ z. IsExpr 1 z q.0) (append_assoc t p.0 u.0) (u.2 (t ++ p.0) (x_app d p.2))))
      (λ i. at_some ([], refl, λ t d. tr (λ z. IsExpr 1 z f) (sym (append-nil t)) d))

  arrow_front : (ts : List Name) → Gives (read_arrow r ts) (Front (IsExpr 0) ts)
  arrow_front ts = by_then (atom_front ts) λ a us p. by_then (h.row a us) λ f vs q.
      let d : IsExpr 1 (p.0 ++ q.0) f = q.2 p.0 (x_tighter (omega arith) p.2) in
      by_option (eat_front _ vs)
      (at_some (p.0 ++ q.0, cc (append_assoc p.0 q.0 vs), x_tighter (omega arith) d))
      λ ws s. by_then (h.term ws) λ b xs t. at_some ((p.0 ++ q.0) ++ (t_to ∷ t.0), cc (append_assoc p.0 q.0 vs, append_assoc (p.0 ++ q.0) (t_to ∷ t.0) xs), x_arrow d t.2)

  pi_front : (x : Name) (ts : List Name) → T (is_name x) → Gives (read_pi r x ts) (Front (IsExpr 0) (t_lp ∷ x ∷ t_colon ∷ ts))
  pi_front x ts i = by_then (h.term ts) λ a us p. by_bind (eat_front _ us) λ vs q. by_bind (eat_front _ vs) λ ws s. by_then (h.term ws) λ b xs t.
      at_some (t_lp ∷ x ∷ t_colon ∷ (p.0 ++ (t_rp ∷ t_to ∷ t.0)), cc (append_assoc p.0 (t_rp ∷ t_to ∷ t.0) xs), x_pi i p.2 t.2)

  lam_front : (x : Name) (ts : List Name) → T (is_name x) → Gives (read_lam r x ts) (Front (IsExpr 0) (k_fun ∷ t_lp ∷ x ∷ t_colon ∷ ts))
  lam_front x ts i = by_then (h.term ts) λ a us p. by_bind (eat_front _ us) λ vs q. by_bind (eat_front _ vs) λ ws s. by_then (h.term ws) λ b xs t.
      at_some (k_fun ∷ t_lp ∷ x ∷ t_colon ∷ (p.0 ++ (t_rp ∷ t_so ∷ t.0)), cc (append_assoc p.0 (t_rp ∷ t_so ∷ t.0) xs), x_fun i p.2 t.2)

  term_front : (ts : List Name) → Gives (read_term r ts) (Front (IsExpr 0) ts)
  term_front ts =
      by_option (eat_front _ ts)
      (by_option (binder_front ts) (arrow_front ts) (λ p s. so (pi_front p.0 p.1 s.1) λ q u. (u.0, s.0 ∙ u.1, u.2)))
      (λ us p. by_then (binder_front us) λ x vs q. so (lam_front x vs q.1) λ s u. (u.0, (cc), u.2))

  args_front : (a : Expr) (ts : List Name) → Gives (read_args r a ts) (Front (λ s b. IsArgs s a b) ts)
  args_front a ts = by_option (eat_front _ ts) (at_some ([], refl, x_no_args)) λ us p. by_then (h.script us) λ b vs q. by_bind (eat_front _ vs) λ ws s.
      so (h.args (e_app a b) ws) λ t u. (t_lc ∷ (q.0 ++ (t_rc ∷ u.0)), cc (append_assoc q.0 (t_rc ∷ u.0) t.1), x_arg q.2 u.2)

  intro_front : (ts : List Name) → Gives (read_intro r ts) (Front IsScript (k_intro ∷ ts))
  intro_front ts = by_then (name_front ts) λ x us p. by_bind (eat_front _ us) λ vs q. by_then (h.script vs) λ a ws s.
      at_some (k_intro ∷ x ∷ t_semi ∷ s.0, (cc), x_intro p.1 s.2)

  have_front : (ts : List Name) → Gives (read_have r ts) (Front IsScript (k_have ∷ ts))
  have_front ts = by_then (name_front ts) λ x us p. by_bind (eat_front _ us) λ vs q. by_then (h.term vs) λ a ws s. by_bind (eat_front _ ws) λ xs t.
      by_then (h.script xs) λ b ys u. by_bind (eat_front _ ys) λ zs v. by_then (h.script zs) λ c ps w.
      at_some (
        k_have ∷ x ∷ t_colon ∷ (s.0 ++ (t_lc ∷ (u.0 ++ (t_rc ∷ w.0)))),
        cc (append_assoc s.0 (t_lc ∷ (u.0 ++ (t_rc ∷ w.0))) ps, append_assoc u.0 (t_rc ∷ w.0) ps),
        x_have p.1 s.2 u.2 w.2,
      )

  exact_front : (ts : List Name) → Gives (read_exact r ts) (Front IsScript (k_exact ∷ ts))
  exact_front ts = by_then (h.term ts) λ a us p. by_bind (eat_front _ us) λ vs q.
      at_some (k_exact ∷ (p.0 ++ (t_semi ∷ [])), cc (append_assoc p.0 (t_semi ∷ []) vs), x_exact p.2)

  apply_front : (ts : List Name) → Gives (read_apply r ts) (Front IsScript (k_apply ∷ ts))
  apply_front ts = by_then (h.term ts) λ a us p. by_bind (eat_front _ us) λ vs q. so (h.args a vs) λ s u.
      (k_apply ∷ (p.0 ++ (t_semi ∷ u.0)), cc (append_assoc p.0 (t_semi ∷ u.0) s.1), x_apply p.2 u.2)

  script_front : (ts : List Name) → Gives (read_script r ts) (Front IsScript ts)
  script_front ts =
      by_option (eat_front _ ts)
      (by_option (eat_front _ ts)
      (by_option (eat_front _ ts)
      (by_option (eat_front _ ts) at_none
      (λ us p. so (apply_front us) λ q u. (u.0, p ∙ u.1, u.2)))
      (λ us p. so (exact_front us) λ q u. (u.0, p ∙ u.1, u.2)))
      (λ us p. so (have_front us) λ q u. (u.0, p ∙ u.1, u.2)))
      (λ us p. so (intro_front us) λ q u. (u.0, p ∙ u.1, u.2))

sound : (n : ℕ) → Sound (readers n)
sound zero = record { term = λ ts. at_none; row = λ f ts. at_none; script = λ ts. at_none; args = λ a ts. at_none }
sound (suc n) = record { term = term_front (readers n) (sound n); row = row_front (readers n) (sound n); script = script_front (readers n) (sound n); args = args_front (readers n) (sound n) }

-- Declarations and their parts. Constructors are read with the closing brace.
params_front : (n : ℕ) (ts : List Name) → Gives (read_params n ts) (Front IsParams ts)
params_front zero ts = at_none
params_front (suc n) ts = by_option (eat_front _ ts) (at_some ([], refl, x_no_params)) λ us p.
    by_then (name_front us) λ x vs q. by_bind (eat_front _ vs) λ ws r. by_then ((sound n).term ws) λ a xs s. by_bind (eat_front _ xs) λ ys t.
    by_then (params_front n ys) λ ps zs u.
    at_some (t_lp ∷ x ∷ t_colon ∷ (s.0 ++ (t_rp ∷ u.0)), cc (append_assoc s.0 (t_rp ∷ u.0) zs), x_param q.1 s.2 u.2)

cons_front : (n : ℕ) (ts : List Name) → Gives (read_cons n ts) (λ p. (s : List Name) × (ts ≡ s ++ (t_rc ∷ p.1)) × IsCons s p.0)
cons_front zero ts = at_none
cons_front (suc n) ts = by_option (eat_front _ ts)
    (by_then (name_front ts) λ x us p. by_then (params_front n us) λ ps vs q. by_bind (eat_front _ vs) λ ws r. by_then (number_front ws) λ k xs s.
    by_bind (eat_front _ xs) λ ys t. by_then (cons_front n ys) λ cs zs u.
    at_some (x ∷ (q.0 ++ (k_again ∷ s.0 ∷ t_semi ∷ u.0)), cc (append_assoc q.0 (k_again ∷ s.0 ∷ t_semi ∷ u.0) (t_rc ∷ zs)), x_con s.0 p.1 q.2 s.2 u.2))
    (λ us p. at_some ([], p, x_no_cons))

hide_front : (ts : List Name) → Gives (read_hide ts) (Front IsHide ts)
hide_front ts = by_option (eat_front _ ts) (at_some ([], refl, x_no_hide)) λ us p. so (number_front us) λ q u. (k_hide ∷ u.0 ∷ [], (cc), x_hide u.2)

-- What stands behind the keyword of a definition or a theorem.
record IsBody (ts : List Name) (p : Decl × List Name) : Type 0 where
  x : Name
  h : ℕ
  a : Expr
  b : Expr
  rs : List Name
  ss : List Name
  us : List Name
  named : T (is_name x)
  hides : IsHide rs h
  type : IsExpr 0 ss a
  body : IsExpr 0 us b
  is : p.0 ≡ d_def x h a b
  front : ts ≡ (x ∷ (rs ++ (t_colon ∷ (ss ++ (t_is ∷ (us ++ (t_semi ∷ []))))))) ++ p.1

def_front : (n : ℕ) (ts : List Name) → Gives (read_def n ts) (IsBody ts)
def_front n ts = by_then (name_front ts) λ x us p. by_then (hide_front us) λ h vs q. by_bind (eat_front _ vs) λ ws r. by_then ((sound n).term ws) λ a xs s.
    by_bind (eat_front _ xs) λ ys t. by_then ((sound n).term ys) λ b zs u. by_bind (eat_front _ zs) λ ps v.
    at_some (record {
      x = x;
      h = h;
      a = a;
      b = b;
      rs = q.0;
      ss = s.0;
      us = u.0;
      named = p.1;
      hides = q.2;
      type = s.2;
      body = u.2;
      is = refl;
      front = cc (append_assoc q.0 (t_colon ∷ (s.0 ++ (t_is ∷ (u.0 ++ (t_semi ∷ []))))) ps, append_assoc s.0 (t_is ∷ (u.0 ++ (t_semi ∷ []))) ps, append_assoc u.0 (t_semi ∷ []) ps);
    })

axiom_front : (n : ℕ) (ts : List Name) → Gives (read_axiom n ts) (Front IsDecl (k_axiom ∷ ts))
axiom_front n ts = by_then (name_front ts) λ x us p. by_then (hide_front us) λ h vs q. by_bind (eat_front _ vs) λ ws r. by_then ((sound n).term ws) λ a xs s.
    by_bind (eat_front _ xs) λ ys t.
    at_some (
      k_axiom ∷ x ∷ (q.0 ++ (t_colon ∷ (s.0 ++ (t_semi ∷ [])))),
      cc (append_assoc q.0 (t_colon ∷ (s.0 ++ (t_semi ∷ []))) ys, append_assoc s.0 (t_semi ∷ []) ys),
      x_axiom p.1 q.2 s.2,
    )

data_front : (n : ℕ) (ts : List Name) → Gives (read_data n ts) (Front IsDecl (k_data ∷ ts))
data_front n ts = by_then (name_front ts) λ x us p. by_then (hide_front us) λ h vs q. by_then (params_front n vs) λ ps ws r. by_bind (eat_front _ ws) λ xs s.
    by_bind (eat_front _ xs) λ ys t. by_then (number_front ys) λ l zs u. by_bind (eat_front _ zs) λ qs v. by_then (cons_front n qs) λ cs rs w.
    at_some (
      k_data ∷ x ∷ (q.0 ++ (r.0 ++ (t_colon ∷ k_type ∷ u.0 ∷ t_lc ∷ (w.0 ++ (t_rc ∷ []))))),
      cc (
        append_assoc q.0 (r.0 ++ (t_colon ∷ k_type ∷ u.0 ∷ t_lc ∷ (w.0 ++ (t_rc ∷ [])))) rs,
        append_assoc r.0 (t_colon ∷ k_type ∷ u.0 ∷ t_lc ∷ (w.0 ++ (t_rc ∷ []))) rs,
        append_assoc w.0 (t_rc ∷ []) rs,
      ),
      x_data u.0 p.1 q.2 r.2 u.2 w.2,
    )

decl_front : (n : ℕ) (ts : List Name) → Gives (read_decl n ts) (Front IsDecl ts)
decl_front n ts =
    by_option (eat_front _ ts)
    (by_option (eat_front _ ts)
    (by_option (eat_front _ ts)
    (by_option (eat_front _ ts) at_none
    (λ us p. so (data_front n us) λ q u. (u.0, p ∙ u.1, u.2)))
    (λ us p. so (axiom_front n us) λ q u. (u.0, p ∙ u.1, u.2)))
    (λ us p. so (def_front n us) λ q u. (
      k_theorem ∷ (u.x ∷ (u.rs ++ (t_colon ∷ (u.ss ++ (t_is ∷ (u.us ++ (t_semi ∷ []))))))),
      cc (p, u.front),
      tr (IsDecl _) (sym u.is) (x_theorem u.named u.hides u.type u.body),
    )))
    (λ us p. so (def_front n us) λ q u. (
      k_def ∷ (u.x ∷ (u.rs ++ (t_colon ∷ (u.ss ++ (t_is ∷ (u.us ++ (t_semi ∷ []))))))),
      cc (p, u.front),
      tr (IsDecl _) (sym u.is) (x_def u.named u.hides u.type u.body),
    ))

decls_front : (n : ℕ) (ts : List Name) → Gives (read_decls n ts) (IsDecls ts)
decls_front zero ts = at_none
decls_front (suc n) [] = at_some x_no_decls
decls_front (suc n) (w ∷ ts) = by_then (decl_front n (w ∷ ts)) λ d us p. by_bind (decls_front n us) λ ds q.
    at_some (tr (λ z. IsDecls z (d ∷ ds)) (sym p.1) (x_decl p.2 q))

-- The same of what is read: terms and scripts.
pub atom_sound : (n : ℕ) (ts us : List Name) (a : Expr) → read_atom (readers n) ts ≡ some (a, us) → (s : List Name) × (ts ≡ s ++ us) × IsExpr 2 s a
atom_sound n ts us a = (atom_front (readers n) (sound n) ts).found (a, us)

pub term_sound : (n : ℕ) (ts us : List Name) (a : Expr) → (readers n).term ts ≡ some (a, us) → (s : List Name) × (ts ≡ s ++ us) × IsExpr 0 s a
term_sound n ts us a = ((sound n).term ts).found (a, us)

pub row_sound : (n : ℕ) (f : Expr) (ts us : List Name) (a : Expr) → (readers n).row f ts ≡ some (a, us)
    → (s : List Name) × (ts ≡ s ++ us) × ((t : List Name) → IsExpr 1 t f → IsExpr 1 (t ++ s) a)
row_sound n f ts us a = ((sound n).row f ts).found (a, us)

pub script_sound : (n : ℕ) (ts us : List Name) (a : Expr) → (readers n).script ts ≡ some (a, us) → (s : List Name) × (ts ≡ s ++ us) × IsScript s a
script_sound n ts us a = ((sound n).script ts).found (a, us)

pub args_sound : (n : ℕ) (a : Expr) (ts us : List Name) (b : Expr) → (readers n).args a ts ≡ some (b, us) → (s : List Name) × (ts ≡ s ++ us) × IsArgs s a b
args_sound n a ts us b = ((sound n).args a ts).found (b, us)

-- Declarations and their parts.
pub params_sound : (n : ℕ) (ts us : List Name) (ps : List Param) → read_params n ts ≡ some (ps, us) → (s : List Name) × (ts ≡ s ++ us) × IsParams s ps
params_sound n ts us ps = (params_front n ts).found (ps, us)

pub cons_sound : (n : ℕ) (ts us : List Name) (cs : List ConDecl) → read_cons n ts ≡ some (cs, us) → (s : List Name) × (ts ≡ s ++ (t_rc ∷ us)) × IsCons s cs
cons_sound n ts us cs = (cons_front n ts).found (cs, us)

pub decl_sound : (n : ℕ) (ts us : List Name) (d : Decl) → read_decl n ts ≡ some (d, us) → (s : List Name) × (ts ≡ s ++ us) × IsDecl s d
decl_sound n ts us d = (decl_front n ts).found (d, us)

pub decls_sound : (n : ℕ) (ts : List Name) (ds : List Decl) → read_decls n ts ≡ some ds → IsDecls ts ds
decls_sound n ts ds = (decls_front n ts).found ds
