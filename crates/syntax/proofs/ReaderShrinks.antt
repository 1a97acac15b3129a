-- What a reader leaves is shorter than what it was given; for rows, arguments, parameters and hide it is no longer.
-- First as statements on whole readers, at the end as statements on what is read.
use Rattle.std.proofs.Common.{◌≡◌, ℕ, zero, suc, ◌<◌, ◌≤◌, List, [], ◌∷◌, length, arith}
use mathlib.Core.Option.{some}
use Rattle.syntax.specs.Surface.{Name, Expr, Param, ConDecl, Decl, same}
use Rattle.syntax.specs.Grammar.{is_name, is_indexed_lem}
use Rattle.syntax.specs.Reader.{Readers, eat, read_name, read_number, read_binder, read_dots, read_word, read_atom, read_row, read_arrow, read_pi, read_lam, read_term, read_args, read_intro, read_have, read_exact, read_apply, read_script, readers, read_params, read_cons, read_hide, read_def, read_axiom, read_data, read_decl, starts_atom_lem, number_of}
use Rattle.syntax.proofs.Gives.{Gives, at_none, at_some, by_then, by_bind, by_option, by_cond, any, so}

-- What is left has fewer than n tokens; at most n.
abbrev Below : {A : Type 0} → ℕ → (A × List Name) → Type 0
Below n p = length p.1 < n

abbrev Within : {A : Type 0} → ℕ → (A × List Name) → Type 0
Within n p = length p.1 ≤ n

eat_below : (k : Name) (ts : List Name) → Gives (eat k ts) (λ us. length us < length ts)
eat_below k [] = at_none
eat_below k (w ∷ ts) = by_cond (same w k) (λ h. at_some (omega arith)) (λ h. at_none)

name_below : (ts : List Name) → Gives (read_name ts) (Below (length ts))
name_below [] = at_none
name_below (w ∷ ts) = by_cond (is_name w) (λ h. at_some (omega arith)) (λ h. at_none)

number_below : (ts : List Name) → Gives (read_number ts) (Below (length ts))
number_below [] = at_none
number_below (w ∷ ts) = by_option {o = number_of w} any at_none (λ n u. at_some (omega arith))

binder_below : (ts : List Name) → Gives (read_binder ts) (Below (length ts))
binder_below ts = by_bind (eat_below _ ts) λ us p. by_then (name_below us) λ x vs q. by_bind (eat_below _ vs) λ ws r. at_some (omega arith)

dots_below : (w : Name) (ts : List Name) → Gives (read_dots w ts) (Below (length ts))
dots_below w ts = by_then (number_below ts) λ n us p. by_option (eat_below _ us) (at_some (omega arith)) λ vs q. by_then (number_below vs) λ m ws r. at_some (omega arith)

word_below : (ts : List Name) → Gives (read_word ts) (Below (length ts))
word_below [] = at_none
word_below (w ∷ ts) = by_cond (is_indexed_lem w) (λ h. by_option (eat_below _ ts)
    (by_cond (is_name w) (λ i. at_some (omega arith)) (λ i. at_none))
    (λ us p. so (dots_below w us) λ q u. omega arith)) (λ h. at_none)

-- The four readers that call one another.
record Shrink (r : Readers) : Type 0 where
  term : (ts : List Name) → Gives (r.term ts) (Below (length ts))
  row : (f : Expr) (ts : List Name) → Gives (r.row f ts) (Within (length ts))
  script : (ts : List Name) → Gives (r.script ts) (Below (length ts))
  args : (a : Expr) (ts : List Name) → Gives (r.args a ts) (Within (length ts))

module _ (r : Readers) (h : Shrink r) where
  atom_below : (ts : List Name) → Gives (read_atom r ts) (Below (length ts))
  atom_below ts =
      by_option (eat_below _ ts)
      (by_option (eat_below _ ts)
      (by_option (eat_below _ ts)
      (by_option (eat_below _ ts)
      (by_option (eat_below _ ts)
      (word_below ts)
      (λ us p. by_bind (eat_below _ us) λ vs q. by_then (h.script vs) λ a ws s. by_bind (eat_below _ ws) λ xs t. at_some (omega arith)))
      (λ us p. at_some (omega arith)))
      (λ us p. by_then (number_below us) λ n vs q. at_some (omega arith)))
      (λ us p. by_then (name_below us) λ x vs q. at_some (omega arith)))
      (λ us p. by_then (h.term us) λ a vs q. by_bind (eat_below _ vs) λ ws s. at_some (omega arith))

  row_within : (f : Expr) (ts : List Name) → Gives (read_row r f ts) (Within (length ts))
  row_within f ts = by_cond (starts_atom_lem ts) (λ i. by_then (atom_below ts) λ a us p. so (h.row _ us) λ q u. omega arith) (λ i. at_some (omega arith))

  arrow_below : (ts : List Name) → Gives (read_arrow r ts) (Below (length ts))
  arrow_below ts = by_then (atom_below ts) λ a us p. by_then (h.row a us) λ f vs q.
      by_option (eat_below _ vs) (at_some (omega arith)) λ ws s. by_then (h.term ws) λ b xs t. at_some (omega arith)

  pi_below : (x : Name) (ts : List Name) → Gives (read_pi r x ts) (Below (length ts))
  pi_below x ts = by_then (h.term ts) λ a us p. by_bind (eat_below _ us) λ vs q. by_bind (eat_below _ vs) λ ws s. by_then (h.term ws) λ b xs t. at_some (omega arith)

  lam_below : (x : Name) (ts : List Name) → Gives (read_lam r x ts) (Below (length ts))
  lam_below x ts = by_then (h.term ts) λ a us p. by_bind (eat_below _ us) λ vs q. by_bind (eat_below _ vs) λ ws s. by_then (h.term ws) λ b xs t. at_some (omega arith)

  term_below : (ts : List Name) → Gives (read_term r ts) (Below (length ts))
  term_below ts =
      by_option (eat_below _ ts)
      (by_option (binder_below ts) (arrow_below ts) (λ p s. so (pi_below p.0 p.1) λ q u. omega arith))
      (λ us p. by_then (binder_below us) λ x vs q. so (lam_below x vs) λ s u. omega arith)

  args_within : (a : Expr) (ts : List Name) → Gives (read_args r a ts) (Within (length ts))
  args_within a ts = by_option (eat_below _ ts) (at_some (omega arith)) λ us p. by_then (h.script us) λ b vs q. by_bind (eat_below _ vs) λ ws s.
      so (h.args _ ws) λ t u. omega arith

  intro_below : (ts : List Name) → Gives (read_intro r ts) (Below (length ts))
  intro_below ts = by_then (name_below ts) λ x us p. by_bind (eat_below _ us) λ vs q. by_then (h.script vs) λ a ws s. at_some (omega arith)

  have_below : (ts : List Name) → Gives (read_have r ts) (Below (length ts))
  have_below ts = by_then (name_below ts) λ x us p. by_bind (eat_below _ us) λ vs q. by_then (h.term vs) λ a ws s. by_bind (eat_below _ ws) λ xs t.
      by_then (h.script xs) λ b ys u. by_bind (eat_below _ ys) λ zs v. by_then (h.script zs) λ c ps w. at_some (omega arith)

  exact_below : (ts : List Name) → Gives (read_exact r ts) (Below (length ts))
  exact_below ts = by_then (h.term ts) λ a us p. by_bind (eat_below _ us) λ vs q. at_some (omega arith)

  apply_below : (ts : List Name) → Gives (read_apply r ts) (Below (length ts))
  apply_below ts = by_then (h.term ts) λ a us p. by_bind (eat_below _ us) λ vs q. so (h.args a vs) λ s u. omega arith

  script_below : (ts : List Name) → Gives (read_script r ts) (Below (length ts))
  script_below ts =
      by_option (eat_below _ ts)
      (by_option (eat_below _ ts)
      (by_option (eat_below _ ts)
      (by_option (eat_below _ ts) at_none
      (λ us p. so (apply_below us) λ q u. omega arith))
      (λ us p. so (exact_below us) λ q u. omega arith))
      (λ us p. so (have_below us) λ q u. omega arith))
      (λ us p. so (intro_below us) λ q u. omega arith)

shrink : (n : ℕ) → Shrink (readers n)
shrink zero = record { term = λ ts. at_none; row = λ f ts. at_none; script = λ ts. at_none; args = λ a ts. at_none }
shrink (suc n) = record { term = term_below (readers n) (shrink n); row = row_within (readers n) (shrink n); script = script_below (readers n) (shrink n); args = args_within (readers n) (shrink n) }

-- Declarations and their parts.
params_within : (n : ℕ) (ts : List Name) → Gives (read_params n ts) (Within (length ts))
params_within zero ts = at_none
params_within (suc n) ts = by_option (eat_below _ ts) (at_some (omega arith)) λ us p.
    by_then (name_below us) λ x vs q. by_bind (eat_below _ vs) λ ws r. by_then ((shrink n).term ws) λ a xs s. by_bind (eat_below _ xs) λ ys t.
    by_then (params_within n ys) λ ps zs u. at_some (omega arith)

cons_below : (n : ℕ) (ts : List Name) → Gives (read_cons n ts) (Below (length ts))
cons_below zero ts = at_none
cons_below (suc n) ts = by_option (eat_below _ ts)
    (by_then (name_below ts) λ x us p. by_then (params_within n us) λ ps vs q. by_bind (eat_below _ vs) λ ws r. by_then (number_below ws) λ k xs s.
    by_bind (eat_below _ xs) λ ys t. by_then (cons_below n ys) λ cs zs u. at_some (omega arith))
    (λ us p. at_some (omega arith))

hide_within : (ts : List Name) → Gives (read_hide ts) (Within (length ts))
hide_within ts = by_option (eat_below _ ts) (at_some (omega arith)) λ us p. so (number_below us) λ q u. omega arith

def_below : (n : ℕ) (ts : List Name) → Gives (read_def n ts) (Below (length ts))
def_below n ts = by_then (name_below ts) λ x us p. by_then (hide_within us) λ h vs q. by_bind (eat_below _ vs) λ ws r. by_then ((shrink n).term ws) λ a xs s.
    by_bind (eat_below _ xs) λ ys t. by_then ((shrink n).term ys) λ b zs u. by_bind (eat_below _ zs) λ ps v. at_some (omega arith)

axiom_below : (n : ℕ) (ts : List Name) → Gives (read_axiom n ts) (Below (length ts))
axiom_below n ts = by_then (name_below ts) λ x us p. by_then (hide_within us) λ h vs q. by_bind (eat_below _ vs) λ ws r. by_then ((shrink n).term ws) λ a xs s.
    by_bind (eat_below _ xs) λ ys t. at_some (omega arith)

data_below : (n : ℕ) (ts : List Name) → Gives (read_data n ts) (Below (length ts))
data_below n ts = by_then (name_below ts) λ x us p. by_then (hide_within us) λ h vs q. by_then (params_within n vs) λ ps ws r. by_bind (eat_below _ ws) λ xs s.
    by_bind (eat_below _ xs) λ ys t. by_then (number_below ys) λ l zs u. by_bind (eat_below _ zs) λ qs v. by_then (cons_below n qs) λ cs rs w. at_some (omega arith)

decl_below : (n : ℕ) (ts : List Name) → Gives (read_decl n ts) (Below (length ts))
decl_below n ts =
    by_option (eat_below _ ts)
    (by_option (eat_below _ ts)
    (by_option (eat_below _ ts)
    (by_option (eat_below _ ts) at_none
    (λ us p. so (data_below n us) λ q u. omega arith))
    (λ us p. so (axiom_below n us) λ q u. omega arith))
    (λ us p. so (def_below n us) λ q u. omega arith))
    (λ us p. so (def_below n us) λ q u. omega arith)

-- The same of what is read: words, names and numbers.
pub eat_shrinks : (k : Name) (ts us : List Name) → eat k ts ≡ some us → length us < length ts
eat_shrinks k ts us = (eat_below k ts).found us

pub name_shrinks : (ts us : List Name) (x : Name) → read_name ts ≡ some (x, us) → length us < length ts
name_shrinks ts us x = (name_below ts).found (x, us)

pub number_shrinks : (ts us : List Name) (n : ℕ) → read_number ts ≡ some (n, us) → length us < length ts
number_shrinks ts us n = (number_below ts).found (n, us)

pub binder_shrinks : (ts us : List Name) (x : Name) → read_binder ts ≡ some (x, us) → length us < length ts
binder_shrinks ts us x = (binder_below ts).found (x, us)

pub word_shrinks : (ts us : List Name) (a : Expr) → read_word ts ≡ some (a, us) → length us < length ts
word_shrinks ts us a = (word_below ts).found (a, us)

-- Terms and scripts.
pub atom_shrinks : (n : ℕ) (ts us : List Name) (a : Expr) → read_atom (readers n) ts ≡ some (a, us) → length us < length ts
atom_shrinks n ts us a = (atom_below (readers n) (shrink n) ts).found (a, us)

pub term_shrinks : (n : ℕ) (ts us : List Name) (a : Expr) → (readers n).term ts ≡ some (a, us) → length us < length ts
term_shrinks n ts us a = ((shrink n).term ts).found (a, us)

pub row_shrinks : (n : ℕ) (f : Expr) (ts us : List Name) (a : Expr) → (readers n).row f ts ≡ some (a, us) → length us ≤ length ts
row_shrinks n f ts us a = ((shrink n).row f ts).found (a, us)

pub script_shrinks : (n : ℕ) (ts us : List Name) (a : Expr) → (readers n).script ts ≡ some (a, us) → length us < length ts
script_shrinks n ts us a = ((shrink n).script ts).found (a, us)

pub args_shrinks : (n : ℕ) (a : Expr) (ts us : List Name) (b : Expr) → (readers n).args a ts ≡ some (b, us) → length us ≤ length ts
args_shrinks n a ts us b = ((shrink n).args a ts).found (b, us)

-- Declarations and their parts.
pub params_shrinks : (n : ℕ) (ts us : List Name) (ps : List Param) → read_params n ts ≡ some (ps, us) → length us ≤ length ts
params_shrinks n ts us ps = (params_within n ts).found (ps, us)

pub cons_shrinks : (n : ℕ) (ts us : List Name) (cs : List ConDecl) → read_cons n ts ≡ some (cs, us) → length us < length ts
cons_shrinks n ts us cs = (cons_below n ts).found (cs, us)

pub hide_shrinks : (ts us : List Name) (h : ℕ) → read_hide ts ≡ some (h, us) → length us ≤ length ts
hide_shrinks ts us h = (hide_within ts).found (h, us)

pub def_shrinks : (n : ℕ) (ts us : List Name) (d : Decl) → read_def n ts ≡ some (d, us) → length us < length ts
def_shrinks n ts us d = (def_below n ts).found (d, us)

pub axiom_shrinks : (n : ℕ) (ts us : List Name) (d : Decl) → read_axiom n ts ≡ some (d, us) → length us < length ts
axiom_shrinks n ts us d = (axiom_below n ts).found (d, us)

pub data_shrinks : (n : ℕ) (ts us : List Name) (d : Decl) → read_data n ts ≡ some (d, us) → length us < length ts
data_shrinks n ts us d = (data_below n ts).found (d, us)

pub decl_shrinks : (n : ℕ) (ts us : List Name) (d : Decl) → read_decl n ts ≡ some (d, us) → length us < length ts
decl_shrinks n ts us d = (decl_below n ts).found (d, us)
