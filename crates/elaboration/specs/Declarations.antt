-- Declarations: what each may stand for, which may be declared, and when all of them in a row check.
use Rattle.std.specs.Prelude.{◌≡◌, Bool, ◌&&◌, List, [], ◌∷◌, ◌++◌, ℕ, suc, length}
use Rattle.theory.specs.Terms.{h_def, h_data, h_con, Term}
use Rattle.theory.specs.Environment.{Constructor, DataType, Entry, defined, assumed, inductive, Env}
use Rattle.theory.specs.Reduction.{Conv}
use Rattle.theory.specs.Typing.{WfEntry}
use Rattle.syntax.specs.Surface.{Name, Expr, Param, ConDecl, Decl, d_def, d_axiom, d_data}
use Rattle.elaboration.specs.Elaboration.{Global, Elab, ElabTelescope, ElabConstructors, plain, plain_params, with_params, plain_cons}

-- The global names of the constructors of data type n, from the k-th on, with h arguments hidden.
abbrev pub con_globals : ℕ → ℕ → ℕ → List ConDecl → List Global
con_globals n h k [] = []
con_globals n h k (s ∷ ss) = record { name = s.name; head = h_con n k; hidden = h } ∷ con_globals n h (suc k) ss

-- The global names that a declaration adds as entry n. Of a data type the constructors hide arguments, and not the type.
abbrev pub globals_of : ℕ → Decl → List Global
globals_of n (d_def x h a b) = record { name = x; head = h_def n; hidden = h } ∷ []
globals_of n (d_axiom x h a) = record { name = x; head = h_def n; hidden = h } ∷ []
globals_of n (d_data x h ps l ss) = record { name = x; head = h_data n; hidden = 0 } ∷ con_globals n h 0 ss

-- ElabDecl gs d c: among the globals gs, the declaration d elaborates to the entry c.
pub data ElabDecl (gs : List Global) : Decl → Entry → Type 0 where
  el_def : {x : Name} {h : ℕ} {a b : Expr} {c t : Term}
      → Elab gs [] a c → Elab gs [] b t → ElabDecl gs (d_def x h a b) (defined t c)
  el_axiom : {x : Name} {h : ℕ} {a : Expr} {c : Term} → Elab gs [] a c → ElabDecl gs (d_axiom x h a) (assumed c)
  el_data : {x : Name} {h l : ℕ} {ps : List Param} {ss : List ConDecl} {ys : List Name} {as₁ : List Term} {cs : List Constructor}
      → ElabTelescope gs [] ps as₁ ys → ElabConstructors gs ys ss cs
      → ElabDecl gs (d_data x h ps l ss) (inductive (record { params = as₁; level = l; cons = cs }))

-- The declaration d may stand for the entry c, and c may be declared in e.
abbrev pub Admissible : List Global → Env → Decl → Entry → Type 0
Admissible gs e d c = ElabDecl gs d c × WfEntry e c

-- As many terms on both sides, convertible one by one.
abbrev pub ConvAll : Env → List Term → List Term → Type 0
ConvAll e [] [] = Unit {0}
ConvAll e [] (u ∷ us) = ⊥
ConvAll e (t ∷ ts) [] = ⊥
ConvAll e (t ∷ ts) (u ∷ us) = Conv e t u × ConvAll e ts us

-- As many constructors on both sides, with convertible fields and as many recursive fields.
abbrev pub ConvConstructors : Env → List Constructor → List Constructor → Type 0
ConvConstructors e [] [] = Unit {0}
ConvConstructors e [] (d ∷ ds) = ⊥
ConvConstructors e (c ∷ cs) [] = ⊥
ConvConstructors e (c ∷ cs) (d ∷ ds) = ConvAll e c.fields d.fields × ((c.recs ≡ d.recs) × ConvConstructors e cs ds)

-- Convertible entries: of one form, with convertible terms.
pub data ConvEntry (e : Env) : Entry → Entry → Type 0 where
  conv_defined : {t u a b : Term} → Conv e t u → Conv e a b → ConvEntry e (defined t a) (defined u b)
  conv_assumed : {a b : Term} → Conv e a b → ConvEntry e (assumed a) (assumed b)
  conv_inductive : {k l : DataType}
      → ConvAll e k.params l.params → k.level ≡ l.level → ConvConstructors e k.cons l.cons
      → ConvEntry e (inductive k) (inductive l)

-- What is left out is forced: every admissible entry for d is convertible to c.
abbrev pub Forced : List Global → Env → Decl → Entry → Type 0
Forced gs e d c = (b : Entry) → Admissible gs e d b → ConvEntry e c b

-- Checks ds gs e: the declarations ds check, one behind the other; they add the globals gs and stand for the environment e.
pub data Checks : List Decl → List Global → Env → Type 0 where
  checks_end : Checks [] [] []
  checks_more : {ds : List Decl} {gs : List Global} {e : Env} {d : Decl} {c : Entry}
      → Checks ds gs e → Admissible gs e d c → Forced gs e d c
      → Checks (ds ++ (d ∷ [])) (gs ++ globals_of (length e) d) (e ++ (c ∷ []))

-- Is nothing left out of the declaration?
abbrev pub plain_decl : List Global → Decl → Bool
plain_decl gs (d_def x h a b) = plain gs [] a && plain gs [] b
plain_decl gs (d_axiom x h a) = plain gs [] a
plain_decl gs (d_data x h ps l ss) = plain_params gs [] ps && plain_cons gs (with_params [] ps) ss
