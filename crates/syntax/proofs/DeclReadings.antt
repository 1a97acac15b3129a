-- What the readers of declarations do, step by step, in the order in which the parser tests; and the words of their parts.
use Rattle.std.proofs.Common.{◌≡◌, ℕ, suc, ◌+◌, ◌≤◌, max, true, List, [], ◌∷◌, ◌++◌, length, is_err, Ok, Err, Result, sym, refl, ap, ◌∙◌, append_assoc, append-nil, arith}
use mathlib.Core.Option.{Option, some, none}
use Rattle.std.proofs.lemmas.Bool.{eq-eqb, ne_eqb, cond-true, cond-false, false≢true}
use Rattle.syntax.specs.declared.problem.Stop.{Stop}
use Rattle.syntax.specs.declared.reading.Read.{Read}
use Rattle.syntax.specs.Tokens.{tokens}
use Rattle.syntax.specs.Lexing.{Behind}
use Rattle.syntax.specs.Surface.{Name, Expr, Param, ConDecl, Decl, d_def, d_axiom, d_data, expr_stage, hide_stage, params_stage, cons_stage, con_names}
use Rattle.syntax.specs.Tree.{put_name, put_expr, put_params, put_cons}
use Rattle.syntax.specs.Grammar.{k_hide, t_lp, t_rp, t_lc, t_rc, t_colon, t_is, t_semi, k_type, k_again}
use Rattle.syntax.specs.Reader.{bind, then, eat, readers, read_name, read_number, read_hide, read_params, read_cons, read_def, read_axiom, read_data}
use Rattle.syntax.specs.Parsing.{Follows, ExpectsNumber, expr_words, level, read_bound}
use Rattle.syntax.specs.declared.scan.Number.{Number}
use Rattle.syntax.specs.declared.write.Writer.{Writer}
use Rattle.syntax.proofs.Gives.{option_is, option_not, then_is}
use Rattle.syntax.proofs.TermReadings.{then_not}
use Rattle.syntax.specs.Declaring.{note_words, param_words, param_stage, con_words, read_param, read_con, Head, read_head, read_typed, head_words, con_name, con_stage, Declares, Hides}
use Rattle.syntax.proofs.TreeWords.{expr_apart, expr_then, name_apart}
use Rattle.syntax.proofs.Items.{all_words, all_level, all_names, prepend}

-- One note.
pub note_alone : (left : ℕ) (x : Name) → left ∷ (length x ∷ x) ≡ note_words (record { left = left; name = x } ∷ [])
note_alone left x = ap (λ (r : List ℕ). left ∷ (length x ∷ r)) (sym (append-nil x))

-- The stage of hidden arguments.
pub hidden_none : (n : ℕ) → n ≡ 0 → 0 ≡ hide_stage n
hidden_none n e = sym (cond-true _ _ _ (eq-eqb n 0 e))

pub hidden_some : (n : ℕ) → (n ≡ 0 → ⊥) → 4 ≡ hide_stage n
hidden_some n e = sym (cond-false _ _ _ (ne_eqb n 0 e))

-- The words and the stage of parameters.
pub params_apart : (ps : List Param) (r : List ℕ) → all_words param_words ps ++ (0 ∷ r) ≡ put_params ps r
params_apart [] r = refl
params_apart (p ∷ ps) r =
    append_assoc (param_words p) _ _ ∙ ap (λ (z : List ℕ). param_words p ++ z) (params_apart ps r)
    ∙ ap (λ (z : List ℕ). 11 ∷ z) (sym (name_apart p.name _ _) ∙ ap (put_name p.name) (sym (expr_then p.type (put_params ps r))))

pub params_level : (ps : List Param) → all_level param_stage ps ≡ params_stage ps
params_level [] = refl
params_level (p ∷ ps) = ap (max (expr_stage p.type)) (params_level ps)

-- Reading in parts.
pub then-then : {A B C : Type 0} (o : Option (A × List Name)) (f : A → List Name → Option (B × List Name)) (g : B → List Name → Option C) → then (then o f) g ≡ then o (λ a us. then (f a us) g)
then-then none f g = refl
then-then (some p) f g = refl

pub then-bind : {A B C : Type 0} (o : Option A) (f : A → Option (B × List Name)) (g : B → List Name → Option C) → then (bind o f) g ≡ bind o (λ x. then (f x) g)
then-bind none f g = refl
then-bind (some x) f g = refl

pub then_cong : {A C : Type 0} (o : Option (A × List Name)) (f g : A → List Name → Option C) → ((a : A) (us : List Name) → f a us ≡ g a us) → then o f ≡ then o g
then_cong none f g h = refl
then_cong (some p) f g h = h p.0 p.1

pub bind_cong : {A C : Type 0} (o : Option A) (f g : A → Option C) → ((x : A) → f x ≡ g x) → bind o f ≡ bind o g
bind_cong none f g h = refl
bind_cong (some x) f g h = h x

pub then_prepend : {A : Type 0} (a : A) (o : Option (List A × List Name)) → then o (λ as₁ us. some (a ∷ as₁, us)) ≡ prepend (a ∷ []) o
then_prepend a none = refl
then_prepend a (some p) = refl

-- One parameter more, and one that is not there.
abbrev more_params : ℕ → Param → List Name → Option (List Param × List Name)
more_params k p us = then (read_params k us) (λ ps vs. some (p ∷ ps, vs))

params_parts : (k : ℕ) (ts us : List Name) → eat t_lp ts ≡ some us → read_params (suc k) ts ≡ then (read_param k us) (more_params k)
params_parts k ts us e =
    option_is (eat t_lp ts) _ _ e (sym
    (then-then (read_name us) _ (more_params k) ∙ then_cong (read_name us) _ _ (λ x vs.
    then-bind (eat t_colon vs) _ (more_params k) ∙ bind_cong (eat t_colon vs) _ _ (λ ws.
    then-then ((readers k).term ws) _ (more_params k) ∙ then_cong ((readers k).term ws) _ _ (λ a xs. then-bind (eat t_rp xs) _ (more_params k))))))

pub params_next : (k : ℕ) (ts us vs : List Name) (p : Param) → eat t_lp ts ≡ some us → read_param k us ≡ some (p, vs) → read_params (suc k) ts ≡ prepend (p ∷ []) (read_params k vs)
params_next k ts us vs p e d = params_parts k ts us e ∙ then_is (read_param k us) (more_params k) d (then_prepend p (read_params k vs))

pub params_stop : (k : ℕ) (ts us : List Name) → eat t_lp ts ≡ some us → read_param k us ≡ none → read_params (suc k) ts ≡ none
params_stop k ts us e d = params_parts k ts us e ∙ then_not (read_param k us) (more_params k) d

-- A name and what it hides, and then more; : and a term, and then more.
pub head_then : {C : Type 0} (n : ℕ) (ts : List Name) (f : Name → ℕ → List Name → Option C)
    → then (read_name ts) (λ x us. then (read_hide us) (λ h vs. f x h vs)) ≡ then (read_head n ts) (λ h vs. f h.name h.hidden vs)
head_then n ts f = sym (then-then (read_name ts) _ _ ∙ then_cong (read_name ts) _ _ (λ x us. then-then (read_hide us) _ _))

pub typed_then : {C : Type 0} (n : ℕ) (ts : List Name) (f : Expr → List Name → Option C) → bind (eat t_colon ts) (λ us. then ((readers n).term us) f) ≡ then (read_typed n ts) f
typed_then n ts f = sym (then-bind (eat t_colon ts) _ f)

-- A definition, an axiom and a data type behind their names.
abbrev pub def_rest : ℕ → Head → List Name → Option (Decl × List Name)
def_rest n h ts = then (read_typed n ts) (λ a us. bind (eat t_is us) (λ vs. then ((readers n).term vs) (λ b ws. bind (eat t_semi ws) (λ xs. some (d_def h.name h.hidden a b, xs)))))

pub def_parts : (n : ℕ) (ts : List Name) → read_def n ts ≡ then (read_head n ts) (def_rest n)
def_parts n ts = head_then n ts _ ∙ then_cong (read_head n ts) _ _ (λ h vs. typed_then n vs _)

abbrev pub axiom_rest : ℕ → Head → List Name → Option (Decl × List Name)
axiom_rest n h ts = then (read_typed n ts) (λ a us. bind (eat t_semi us) (λ vs. some (d_axiom h.name h.hidden a, vs)))

pub axiom_parts : (n : ℕ) (ts : List Name) → read_axiom n ts ≡ then (read_head n ts) (axiom_rest n)
axiom_parts n ts = head_then n ts _ ∙ then_cong (read_head n ts) _ _ (λ h vs. typed_then n vs _)

abbrev pub data_rest : ℕ → Head → List Name → Option (Decl × List Name)
data_rest n h ts =
    then (read_params n ts) (λ ps us. bind (eat t_colon us) (λ vs. bind (eat k_type vs) (λ ws. then (read_number ws) (λ l xs. bind (eat t_lc xs) (λ ys.
    then (read_cons n ys) (λ cs zs. some (d_data h.name h.hidden ps l cs, zs)))))))

pub data_parts : (n : ℕ) (ts : List Name) → read_data n ts ≡ then (read_head n ts) (data_rest n)
data_parts n ts = head_then n ts _

-- One constructor more, and one that is not there.
abbrev more_cons : ℕ → ConDecl → List Name → Option (List ConDecl × List Name)
more_cons k c us = then (read_cons k us) (λ cs vs. some (c ∷ cs, vs))

cons_parts : (k : ℕ) (ts : List Name) → eat t_rc ts ≡ none → read_cons (suc k) ts ≡ then (read_con k ts) (more_cons k)
cons_parts k ts e =
    option_not (eat t_rc ts) _ _ e (sym
    (then-then (read_name ts) _ (more_cons k) ∙ then_cong (read_name ts) _ _ (λ x us.
    then-then (read_params k us) _ (more_cons k) ∙ then_cong (read_params k us) _ _ (λ ps vs.
    then-bind (eat k_again vs) _ (more_cons k) ∙ bind_cong (eat k_again vs) _ _ (λ ws.
    then-then (read_number ws) _ (more_cons k) ∙ then_cong (read_number ws) _ _ (λ m xs. then-bind (eat t_semi xs) _ (more_cons k)))))))

pub cons_next : (k : ℕ) (ts us : List Name) (c : ConDecl) → eat t_rc ts ≡ none → read_con k ts ≡ some (c, us) → read_cons (suc k) ts ≡ prepend (c ∷ []) (read_cons k us)
cons_next k ts us c e d = cons_parts k ts e ∙ then_is (read_con k ts) (more_cons k) d (then_prepend c (read_cons k us))

pub cons_stop : (k : ℕ) (ts : List Name) → eat t_rc ts ≡ none → read_con k ts ≡ none → read_cons (suc k) ts ≡ none
cons_stop k ts e d = cons_parts k ts e ∙ then_not (read_con k ts) (more_cons k) d

-- The words, names and stage of constructors.
pub params_then : (ps : List Param) (r s : List ℕ) → put_params ps (r ++ s) ≡ put_params ps r ++ s
params_then [] r s = refl
params_then (p ∷ ps) r s =
    ap (λ (z : List ℕ). 11 ∷ put_name p.name (put_expr p.type z)) (params_then ps r s)
    ∙ ap (λ (z : List ℕ). 11 ∷ put_name p.name z) (expr_apart p.type (put_params ps r) s)
    ∙ ap (λ (z : List ℕ). 11 ∷ z) (name_apart p.name (put_expr p.type (put_params ps r)) s)

pub cons_apart : (cs : List ConDecl) (r : List ℕ) → all_words con_words cs ++ (0 ∷ r) ≡ put_cons cs r
cons_apart [] r = refl
cons_apart (c ∷ cs) r =
    append_assoc (con_words c) _ _ ∙ ap (λ (z : List ℕ). con_words c ++ z) (cons_apart cs r)
    ∙ ap (λ (z : List ℕ). 12 ∷ z) (sym (name_apart c.name _ _) ∙ ap (put_name c.name) (sym (params_then c.fields (c.recs ∷ []) (put_cons cs r))))

pub cons_then : (cs : List ConDecl) (r s : List ℕ) → put_cons cs (r ++ s) ≡ put_cons cs r ++ s
cons_then [] r s = refl
cons_then (c ∷ cs) r s =
    ap (λ (z : List ℕ). 12 ∷ put_name c.name (put_params c.fields (c.recs ∷ z))) (cons_then cs r s)
    ∙ ap (λ (z : List ℕ). 12 ∷ put_name c.name z) (params_then c.fields (c.recs ∷ put_cons cs r) s)
    ∙ ap (λ (z : List ℕ). 12 ∷ z) (name_apart c.name (put_params c.fields (c.recs ∷ put_cons cs r)) s)

pub cons_level : (cs : List ConDecl) → all_level con_stage cs ≡ cons_stage cs
cons_level [] = refl
cons_level (c ∷ cs) = ap (max (params_stage c.fields)) (cons_level cs)

pub cons_named : (cs : List ConDecl) → all_names con_name cs ≡ con_names cs
cons_named [] = refl
cons_named (c ∷ cs) = ap (λ (r : List Name). c.name ∷ r) (cons_named cs)

-- What follows a head.
pub head_apart : (tag : ℕ) (h : Head) (r : List ℕ) → head_words tag h ++ r ≡ tag ∷ put_name h.name (h.hidden ∷ r)
head_apart tag h r = ap (λ (z : List ℕ). tag ∷ z) (sym (name_apart h.name (h.hidden ∷ []) r))

-- An error says that nothing is found.
pub declares_fail : {A : Type 0} (d : ℕ) (f : ℕ → List Name → Option (A × List Name)) (words : A → List ℕ) (names : A → List Name) (level : A → ℕ)
    (bs : List ℕ) (before after before₂ after₂ : Writer) (r : Result Read Stop)
    → is_err r ≡ true → ((n : ℕ) → d + length (tokens bs) ≤ n → f n (tokens bs) ≡ none) → Declares d f words names level bs before after before₂ after₂ r
declares_fail d f words names level bs before after before₂ after₂ (Ok q) e h = absurd (false≢true e)
declares_fail d f words names level bs before after before₂ after₂ (Err s) e h = h

-- A call of f behind a first word says what g says.
pub declares_by : {A : Type 0} (f g : ℕ → List Name → Option (A × List Name)) (words : A → List ℕ) (names : A → List Name) (level : A → ℕ) (bs us : List ℕ) (before after before₂ after₂ : Writer) (r : Result Read Stop)
    → ((n : ℕ) → f n (tokens bs) ≡ g n (tokens us)) → Behind bs us → Declares 0 g words names level us before after before₂ after₂ r → Declares 0 f words names level bs before after before₂ after₂ r
declares_by f g words names level bs us before after before₂ after₂ (Ok q) e b d =
    record {
      value = d.value;
      reads = λ n h. e n ∙ d.reads n (omega (arith, h, b.fewer));
      wrote = d.wrote;
      notes = d.notes;
      named = d.named;
      noted = d.noted;
      stage = d.stage;
      fewer = omega (arith, d.fewer, b.fewer);
      room = omega (arith, d.room, b.shorter);
      note_room = omega (arith, d.note_room, b.shorter);
    }
declares_by f g words names level bs us before after before₂ after₂ (Err s) e b d = λ n h. e n ∙ d n (omega (arith, h, b.fewer))

-- A type behind a parameter's name says what the parameter is.
pub param_by : (x : Name) (ts us : List Name) (b₁ b₂ : ℕ) (before after : Writer) (r : Result Read Stop) → ((n : ℕ) → read_param n ts ≡ then (read_bound (readers n) us) (λ a vs. some (record { name = x; type = a }, vs)))
    → length us ≤ length ts → b₁ ≤ b₂ → Follows (level read_bound) (λ a. 11 ∷ put_name x (expr_words a)) expr_stage 1 us b₁ before after r → Follows read_param param_words param_stage 1 ts b₂ before after r
param_by x ts us b₁ b₂ before after (Ok q) e l k d =
    record {
      value = record { name = x; type = d.value };
      reads = λ n h. e n ∙ then_is _ _ (d.reads n (omega arith)) refl;
      wrote = d.wrote;
      stage = d.stage;
      fewer = omega (arith, d.fewer);
      room = omega (arith, d.room);
    }
param_by x ts us b₁ b₂ before after (Err s) e l k d = λ n h. e n ∙ then_not _ _ (d n (omega arith))

-- A number behind hide says what is hidden.
pub hides_by : (bs us : List ℕ) (r : Result Number Stop) → eat k_hide (tokens bs) ≡ some (tokens us) → Behind bs us → ExpectsNumber us r → Hides bs r
hides_by bs us (Ok n) e b d =
    record {
      reads = option_is _ _ _ e d.reads;
      shorter = omega (arith, b.shorter, d.behind.shorter);
      fewer = omega (arith, b.fewer, d.behind.fewer);
      small = d.small;
    }
hides_by bs us (Err s) e b d = option_is _ _ _ e d
