-- Declarations in the tree: the row that one adds to the table, and its terms resolved one after the other.
use Rattle.std.proofs.Common.{◌≡◌, ℕ, ◌+◌, ◌*◌, ◌≤◌, true, List, [], ◌∷◌, ◌++◌, length, get_or, drop, sym, refl, ap, ◌∙◌, subst as tr, arith, length-drop, eqb-true}
use Rattle.std.proofs.lemmas.List.{drop-drop, drop_all}
use Rattle.theory.specs.Terms.{h_def, Term, const, size}
use Rattle.theory.specs.Environment.{Entry}
use Rattle.theory.proofs.Options.{false-true, some_inj, and_true}
use Rattle.terms.specs.Words.{put}
use Rattle.terms.proofs.Nodes.{put-length, put_append}
use Rattle.terms.proofs.Appending.{append_then, append_as}
use Rattle.syntax.specs.Surface.{Name, Expr, e_hole, Decl, d_def, d_axiom, d_data}
use Rattle.syntax.specs.Tree.{put_expr, put_name, put_decl}
use Rattle.elaboration.specs.Elaboration.{Global, Elab}
use Rattle.elaboration.specs.Declarations.{globals_of, ElabDecl, el_def, el_axiom, el_data}
use Rattle.resolver.specs.Resolving.{basic, nodes, basic_decl}
use Rattle.resolver.specs.Names.{NameAt, GlobalsAt, no_rows, a_row, ScopeAt, no_names}
use Rattle.resolver.specs.Frames.{Setting, Written}
use Rattle.resolver.specs.Entries.{DeclAt, DeclSetting, DefWritten, AxiomWritten}
use Rattle.resolver.proofs.Resolution.{complete}
use Rattle.resolver.proofs.Plain.{resolved-size, decl_complete}
use Rattle.resolver.proofs.Naming.{read_first}
use Rattle.resolver.proofs.Shapes.{name_behind}
use Rattle.resolver.proofs.Walked.{bare}

tail : (tree : List ℕ) (p w : ℕ) (ws : List ℕ) → drop p tree ≡ w ∷ ws → drop (p + 1) tree ≡ ws
tail tree p w ws e = sym (drop-drop 1 p tree) ∙ ap (drop 1) e

-- One row more.
pub globals_more : {tree t : List ℕ} {gs : List Global} → GlobalsAt tree t gs → (place : ℕ) (g : Global) → NameAt tree place g.name → g.hidden ≡ 0
    → GlobalsAt tree (t ++ (place ∷ put (const g.head) [])) (gs ++ (g ∷ []))
globals_more no_rows place g n h = a_row (record { place = place; behind = []; words = refl; at = n; bare = h }) no_rows
globals_more (a_row {g = f} r m) place g n h =
    a_row (record {
      place = r.place;
      behind = r.behind ++ (place ∷ put (const g.head) []);
      words = ap (λ (z : List ℕ). z ++ (place ∷ put (const g.head) [])) r.words ∙ ap (λ (z : List ℕ). r.place ∷ z) (sym (put_append (const f.head) r.behind (place ∷ put (const g.head) [])));
      at = r.at;
      bare = r.bare;
    })
    (globals_more m place g n h)

pub declared_more : {tree t : List ℕ} {gs : List Global} → GlobalsAt tree t gs → (p n : ℕ) (d : Decl) → DeclAt tree p d
    → GlobalsAt tree (t ++ ((p + 1) ∷ 5 ∷ n ∷ 0 ∷ [])) (gs ++ globals_of n d)
declared_more {tree} g p n (d_def x h a b) e = globals_more g (p + 1) (record { name = x; head = h_def n; hidden = h }) (record { rest = _; stands = tail tree p _ _ e.stands }) (eqb-true h 0 e.bare)
declared_more {tree} g p n (d_axiom x h a) e = globals_more g (p + 1) (record { name = x; head = h_def n; hidden = h }) (record { rest = _; stands = tail tree p _ _ e.stands }) (eqb-true h 0 e.bare)
declared_more g p n (d_data x h ps l cs) e = false-true e.bare

pub decl_within : (tree : List ℕ) (p : ℕ) (d : Decl) → DeclAt tree p d → p + 2 ≤ length tree
decl_within tree p (d_def x h a b) e = omega (arith, length-drop p tree, ap length e.stands)
decl_within tree p (d_axiom x h a) e = omega (arith, length-drop p tree, ap length e.stands)
decl_within tree p (d_data x h ps l cs) e = false-true e.bare

-- The type and the body of a declaration, and what stands behind the type.
abbrev pub type_of : Decl → Expr
type_of (d_def x h a b) = a
type_of (d_axiom x h a) = a
type_of (d_data x h ps l cs) = e_hole

abbrev pub body_of : Decl → Expr
body_of (d_def x h a b) = b
body_of (d_axiom x h a) = e_hole
body_of (d_data x h ps l cs) = e_hole

abbrev pub behind_type : Decl → List ℕ → List ℕ
behind_type (d_def x h a b) rest = put_expr b rest
behind_type (d_axiom x h a) rest = rest
behind_type (d_data x h ps l cs) rest = rest

-- A definition or an axiom in the tree.
pub data DeclShape (tree : List ℕ) (p : ℕ) : Decl → Type 0 where
  def_shape : {x : Name} {h : ℕ} {a b : Expr} → get_or tree p 0 ≡ 13 → DeclShape tree p (d_def x h a b)
  axiom_shape : {x : Name} {h : ℕ} {a : Expr} → get_or tree p 0 ≡ 14 → DeclShape tree p (d_axiom x h a)

pub decl_shape : (tree : List ℕ) (p : ℕ) (d : Decl) (rest : List ℕ) → drop p tree ≡ put_decl d rest → basic_decl d ≡ true → DeclShape tree p d
decl_shape tree p (d_def x h a b) rest e s = def_shape (read_first tree p _ _ e)
decl_shape tree p (d_axiom x h a) rest e s = axiom_shape (read_first tree p _ _ e)
decl_shape tree p (d_data x h ps l cs) rest e s = false-true s

hidden_at : (tree : List ℕ) (p t : ℕ) (x : Name) (h : ℕ) (r : List ℕ) → drop p tree ≡ t ∷ put_name x (h ∷ r) → drop (p + 1 + 1 + get_or tree (p + 1) 0) tree ≡ h ∷ r
hidden_at tree p t x h r e = name_behind tree (p + 1) x (h ∷ r) (tail tree p _ _ e)

type_at : (tree : List ℕ) (p t : ℕ) (x : Name) (h : ℕ) (r : List ℕ) → drop p tree ≡ t ∷ put_name x (h ∷ r) → drop (p + 3 + get_or tree (p + 1) 0) tree ≡ r
type_at tree p t x h r e = ap (λ (k : ℕ). drop k tree) (let z : p + 3 + get_or tree (p + 1) 0 ≡ p + 1 + 1 + get_or tree (p + 1) 0 + 1 = omega arith in z) ∙ tail tree _ h r (hidden_at tree p t x h r e)

type_in : (tree : List ℕ) (p t : ℕ) (x : Name) (h : ℕ) (r : List ℕ) → drop p tree ≡ t ∷ put_name x (h ∷ r) → p + 3 + get_or tree (p + 1) 0 ≤ length tree
type_in tree p t x h r e = omega (arith, length-drop (p + 1 + 1 + get_or tree (p + 1) 0) tree, ap length (hidden_at tree p t x h r e))

no_scope : {tree s : List ℕ} → s ≡ [] → ScopeAt tree s []
no_scope {tree} e = tr (λ (z : List ℕ). ScopeAt tree z []) (sym e) no_names

module _ {tree : List ℕ} {p : ℕ} {table stack out : List ℕ} {start : ℕ} {gs : List Global} where
  pub setting_within : (d : Decl) (rest : List ℕ) → DeclSetting tree p table stack out start gs d rest → p + 3 + get_or tree (p + 1) 0 ≤ length tree
  setting_within (d_def x h a b) rest s = type_in tree p _ x h _ s.stands
  setting_within (d_axiom x h a) rest s = type_in tree p _ x h _ s.stands
  setting_within (d_data x h ps l cs) rest s = false-true s.plain

  -- The type can be resolved.
  pub type_setting : (d : Decl) (rest : List ℕ) → DeclSetting tree p table stack out start gs d rest
      → Setting tree (p + 3 + get_or tree (p + 1) 0) table stack (length stack) out start gs [] (type_of d) (behind_type d rest)
  type_setting (d_def x h a b) rest s = record {
    globals = s.globals;
    scope = no_scope (drop_all (length stack) stack (omega arith));
    stands = record { stands = type_at tree p _ x h _ s.stands; plain = and_true (basic a) (basic b) s.plain λ q r. q };
    room = omega (arith, s.room);
    depth = omega (arith, s.depth);
    within = omega arith;
  }
  type_setting (d_axiom x h a) rest s = record {
    globals = s.globals;
    scope = no_scope (drop_all (length stack) stack (omega arith));
    stands = record { stands = type_at tree p _ x h _ s.stands; plain = s.plain };
    room = omega (arith, s.room);
    depth = omega (arith, s.depth);
    within = omega arith;
  }
  type_setting (d_data x h ps l cs) rest s = false-true s.plain

  unique : (d : Decl) (rest : List ℕ) → DeclSetting tree p table stack out start gs d rest → (c : Entry) → ElabDecl gs d c → (b : Entry) → ElabDecl gs d b → b ≡ c
  unique d rest s c y b x = some_inj (sym (decl_complete (bare s.globals) x s.plain) ∙ decl_complete (bare s.globals) y s.plain)

  -- The type elaborates to nothing; it is all there is; the body can be resolved too.
  pub no_type : (d : Decl) (rest : List ℕ) → DeclSetting tree p table stack out start gs d rest → ((t : Term) → Elab gs [] (type_of d) t → ⊥) → (c : Entry) → ElabDecl gs d c → ⊥
  no_type d rest s f c (el_def x y) = f _ x
  no_type d rest s f c (el_axiom x) = f _ x
  no_type d rest s f c (el_data x y) = false-true s.plain

  pub no_body : {d : Decl} {rest : List ℕ} → DeclSetting tree p table stack out start gs d rest → DeclShape tree p d → (get_or tree p 0 ≡ 14 → ⊥)
      → ((t : Term) → Elab gs [] (body_of d) t → ⊥) → (c : Entry) → ElabDecl gs d c → ⊥
  no_body s (axiom_shape t) u f c x = absurd (u t)
  no_body s (def_shape t) u f c (el_def x y) = f _ y

  module _ {out₂ : List ℕ} {end behind : ℕ} where
    pub axiom_written : {d : Decl} {rest : List ℕ} → DeclSetting tree p table stack out start gs d rest → DeclShape tree p d → get_or tree p 0 ≡ 14
        → Written tree gs [] (type_of d) (behind_type d rest) out start out₂ end behind → AxiomWritten tree gs d rest out start out₂ end behind
    axiom_written s (def_shape t) u w = absurd (let z : ⊥ = omega (arith, t, u) in z)
    axiom_written {d} {rest} s (axiom_shape t) u w = record {
      type = w.term;
      written = record { elab = el_axiom w.elab; unique = unique d rest s _ (el_axiom w.elab); writes = w.writes; goes_on = w.goes_on };
    }

    type_size : {d : Decl} {rest : List ℕ} → DeclSetting tree p table stack out start gs d rest → basic (type_of d) ≡ true → (w : Written tree gs [] (type_of d) (behind_type d rest) out start out₂ end behind)
        → end ≡ start + 3 * size w.term × (size w.term ≡ nodes (type_of d))
    type_size {d} s q w = (omega (arith, w.writes.ends, put-length w.term []), ap size (sym (complete (bare s.globals) w.elab q).1) ∙ resolved-size gs [] (type_of d))

    pub body_setting : {d : Decl} {rest : List ℕ} → DeclSetting tree p table stack out start gs d rest → DeclShape tree p d → (get_or tree p 0 ≡ 14 → ⊥)
        → Written tree gs [] (type_of d) (behind_type d rest) out start out₂ end behind → {stack₂ : List ℕ} → length stack₂ ≡ length stack → length out₂ ≡ length out
        → Setting tree behind table stack₂ (length stack) out₂ end gs [] (body_of d) rest
    body_setting s (axiom_shape t) u w l m = absurd (u t)
    body_setting {d} {rest} s (def_shape {a = a} {b = b} t) u w {stack₂} l m = and_true (basic a) (basic b) s.plain λ q r.
        let z = type_size s q w in
        record {
          globals = s.globals;
          scope = no_scope (drop_all (length stack) stack₂ (omega arith));
          stands = record { stands = w.goes_on; plain = r };
          room = omega (arith, s.room, z.0, z.1);
          depth = omega (arith, s.depth);
          within = omega arith;
        }

    pub def_written : {d : Decl} {rest : List ℕ} → DeclSetting tree p table stack out start gs d rest → DeclShape tree p d → (get_or tree p 0 ≡ 14 → ⊥)
        → Written tree gs [] (type_of d) (behind_type d rest) out start out₂ end behind → {out₃ : List ℕ} {end₃ behind₃ : ℕ}
        → Written tree gs [] (body_of d) rest out₂ end out₃ end₃ behind₃ → DefWritten tree gs d rest out start out₃ end end₃ behind₃
    def_written s (axiom_shape t) u w v = absurd (u t)
    def_written {d} {rest} s (def_shape {a = a} {b = b} t) u w v = and_true (basic a) (basic b) s.plain λ q r. record {
      type = w.term;
      body = v.term;
      written = record {
        elab = el_def w.elab v.elab;
        unique = unique d rest s _ (el_def w.elab v.elab);
        writes = append_as _ _ _ _ _ _ (sym (put_append w.term [] (put v.term []))) (append_then _ _ _ _ _ _ _ _ w.writes v.writes);
        goes_on = v.goes_on;
      };
      place = (type_size s q w).0;
    }
