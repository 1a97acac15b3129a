-- A plain term in the tree, read node by node: its tag, its name, where its parts begin, what it becomes.
use Rattle.std.proofs.Common.{◌≡◌, ℕ, suc, ◌+◌, ◌≤◌, List, ◌∷◌, length, get_or, drop, Some, None, Option, sym, refl, ap, ◌∙◌, subst as tr, arith, length-drop}
use mathlib.Core.Option as M
use Rattle.std.proofs.lemmas.List.{drop-drop, drop_at}
use Rattle.std.proofs.lemmas.Option.{none-some}
use Rattle.theory.specs.Terms.{Head, var, const, option}
use Rattle.theory.proofs.Options.{false-true}
use Rattle.terms.specs.Words.{root}
use Rattle.terms.specs.declared.sign.Sign.{Sign}
use Rattle.terms.specs.declared.sign.Sign.TheVariants.{Pi, Lam, App, Var, Sort}
use Rattle.syntax.specs.Surface.{Name, Expr, e_name, e_at, e_full, e_sort, e_pi, e_lam, e_app, e_hole, e_by, e_have}
use Rattle.syntax.specs.Tags.{tag_word, TagOf}
use Rattle.syntax.specs.declared.tag.Tag.{Tag}
use Rattle.syntax.specs.declared.tag.Tag.TheVariants as T
use Rattle.syntax.specs.Tree.{put_expr, put_name, put_numbers}
use Rattle.elaboration.specs.Elaboration.{Global, lookup, index_of, indexed_head}
use Rattle.resolver.specs.Resolving.{name_term, indexed_term}
use Rattle.resolver.specs.Names.{NameAt, Named, global_sign, index_found}
use Rattle.resolver.specs.Nodes.{term_sign, head_sign, node_sign_lem, PlainAt, Plain, IndexedAt, Indexed, PartsAt}
use Rattle.resolver.proofs.Naming.{read_first, named_within}

-- What stands behind a name.
pub name_behind : (tree : List ℕ) (p : ℕ) (x : Name) (r : List ℕ) → drop p tree ≡ put_name x r → drop (p + 1 + get_or tree p 0) tree ≡ r
name_behind tree p x r e =
    ap (λ (k : ℕ). drop k tree) (let z : p + 1 + get_or tree p 0 ≡ p + suc (length x) = omega (arith, read_first tree p _ _ e) in z)
    ∙ sym (drop-drop (suc (length x)) p tree) ∙ ap (drop (suc (length x))) e ∙ drop_at x r (length x) refl

pub indexed_named : (tree : List ℕ) (p : ℕ) → Indexed tree p → Named tree p
indexed_named tree p i = record { name = i.name; at = record { rest = put_numbers i.numbers i.at.rest; stands = i.at.stands } }

pub indexed_name : (tree : List ℕ) (p : ℕ) (x : Name) (ns : List ℕ) → IndexedAt tree p x ns → NameAt tree p x
indexed_name tree p x ns i = record { rest = put_numbers ns i.rest; stands = i.stands }

pub indexed_numbers : (tree : List ℕ) (p : ℕ) (x : Name) (ns : List ℕ) → IndexedAt tree p x ns → NameAt tree (p + 1 + get_or tree p 0) ns
indexed_numbers tree p x ns i = record { rest = i.rest; stands = name_behind tree p x _ i.stands }

-- A word that is a tag's, and one that is not.
pub tagged : {w : ℕ} {f : Tag} → TagOf w (Some f) → (t : Tag) → f ≡ t → w ≡ tag_word t
tagged a t e = sym ((a t).0 (ap Some e))

pub not_tagged : {w : ℕ} {f : Tag} → TagOf w (Some f) → (t : Tag) → (f ≡ t → ⊥) → w ≡ tag_word t → ⊥
not_tagged {w} {f} a t n e = let h : ◌≡◌ {A = Option Tag} (Some f) (Some t) = (a t).1 (sym e) in let z : f ≡ t = cc in n z

-- The forms of plain terms.
pub data Shape (tree : List ℕ) (p : ℕ) : Expr → List ℕ → Type 0 where
  s_name : {x : Name} {rest : List ℕ} → get_or tree p 0 ≡ 1 → drop (p + 1) tree ≡ put_name x rest → Shape tree p (e_name x) rest
  s_at : {x : Name} {ns rest : List ℕ} → get_or tree p 0 ≡ 2 → drop (p + 1) tree ≡ put_name x (put_numbers ns rest) → Shape tree p (e_at x ns) rest
  s_sort : {i : ℕ} {rest : List ℕ} → get_or tree p 0 ≡ 4 → drop (p + 1) tree ≡ i ∷ rest → Shape tree p (e_sort i) rest
  s_pi : {x : Name} {a b : Expr} {rest : List ℕ} → get_or tree p 0 ≡ 5 → drop (p + 1) tree ≡ put_name x (put_expr a (put_expr b rest)) → Shape tree p (e_pi x a b) rest
  s_lam : {x : Name} {a b : Expr} {rest : List ℕ} → get_or tree p 0 ≡ 6 → drop (p + 1) tree ≡ put_name x (put_expr a (put_expr b rest)) → Shape tree p (e_lam x a b) rest
  s_app : {f a : Expr} {rest : List ℕ} → get_or tree p 0 ≡ 7 → drop (p + 1) tree ≡ put_expr f (put_expr a rest) → Shape tree p (e_app f a) rest

tail : (tree : List ℕ) (p w : ℕ) (ws : List ℕ) → drop p tree ≡ w ∷ ws → drop (p + 1) tree ≡ ws
tail tree p w ws e = sym (drop-drop 1 p tree) ∙ ap (drop 1) e

pub shape : (tree : List ℕ) (p : ℕ) (e : Expr) (rest : List ℕ) → PlainAt tree p e rest → Shape tree p e rest
shape tree p (e_name x) rest a = s_name (read_first tree p _ _ a.stands) (tail tree p _ _ a.stands)
shape tree p (e_at x ns) rest a = s_at (read_first tree p _ _ a.stands) (tail tree p _ _ a.stands)
shape tree p (e_full x) rest a = false-true a.plain
shape tree p (e_sort i) rest a = s_sort (read_first tree p _ _ a.stands) (tail tree p _ _ a.stands)
shape tree p (e_pi x b c) rest a = s_pi (read_first tree p _ _ a.stands) (tail tree p _ _ a.stands)
shape tree p (e_lam x b c) rest a = s_lam (read_first tree p _ _ a.stands) (tail tree p _ _ a.stands)
shape tree p (e_app f b) rest a = s_app (read_first tree p _ _ a.stands) (tail tree p _ _ a.stands)
shape tree p e_hole rest a = false-true a.plain
shape tree p (e_by b) rest a = false-true a.plain
shape tree p (e_have x b c d) rest a = false-true a.plain

other : {B : Type 0} {n : ℕ} (k l : ℕ) → n ≡ k → n ≡ l → (k ≡ l → ⊥) → B
other k l p q d = absurd (d (sym p ∙ q))

-- Every term has two words and more behind it or in it; all but sorts and uses have a name.
expr_some : (e : Expr) (r : List ℕ) → 1 ≤ length (put_expr e r)
expr_some (e_name x) r = omega arith
expr_some (e_at x ns) r = omega arith
expr_some (e_full x) r = omega arith
expr_some (e_sort i) r = omega arith
expr_some (e_pi x a b) r = omega arith
expr_some (e_lam x a b) r = omega arith
expr_some (e_app f a) r = omega arith
expr_some e_hole r = omega arith
expr_some (e_by a) r = omega arith
expr_some (e_have x a b c) r = omega arith

module _ (tree : List ℕ) (p : ℕ) where
  pub shape_within : {e : Expr} {rest : List ℕ} → Shape tree p e rest → p + 2 ≤ length tree
  shape_within (s_name t s) = omega (arith, length-drop (p + 1) tree, ap length s)
  shape_within (s_at t s) = omega (arith, length-drop (p + 1) tree, ap length s)
  shape_within (s_sort t s) = omega (arith, length-drop (p + 1) tree, ap length s)
  shape_within (s_pi t s) = omega (arith, length-drop (p + 1) tree, ap length s)
  shape_within (s_lam t s) = omega (arith, length-drop (p + 1) tree, ap length s)
  shape_within (s_app {f = f} {a = a} {rest = rest} t s) = omega (arith, length-drop (p + 1) tree, ap length s, expr_some f (put_expr a rest))

  shape_tagged : {e : Expr} {rest : List ℕ} → Shape tree p e rest → TagOf (get_or tree p 0) None → ⊥
  shape_tagged (s_name t s) a = none-some _ ((a T.Name).1 (sym t))
  shape_tagged (s_at t s) a = none-some _ ((a T.Indexed).1 (sym t))
  shape_tagged (s_sort t s) a = none-some _ ((a T.Sort).1 (sym t))
  shape_tagged (s_pi t s) a = none-some _ ((a T.Pi).1 (sym t))
  shape_tagged (s_lam t s) a = none-some _ ((a T.Lam).1 (sym t))
  shape_tagged (s_app t s) a = none-some _ ((a T.App).1 (sym t))

  pub shape_named : {e : Expr} {rest : List ℕ} → Shape tree p e rest → (get_or tree p 0 ≡ 7 → ⊥) → (get_or tree p 0 ≡ 4 → ⊥) → Named tree (p + 1)
  shape_named (s_name {x = x} t s) u v = record { name = x; at = record { rest = _; stands = s } }
  shape_named (s_at {x = x} t s) u v = record { name = x; at = record { rest = _; stands = s } }
  shape_named (s_sort t s) u v = absurd (v t)
  shape_named (s_pi {x = x} t s) u v = record { name = x; at = record { rest = _; stands = s } }
  shape_named (s_lam {x = x} t s) u v = record { name = x; at = record { rest = _; stands = s } }
  shape_named (s_app t s) u v = absurd (u t)

  pub shape_indexed : {e : Expr} {rest : List ℕ} → Shape tree p e rest → get_or tree p 0 ≡ 2 → Indexed tree (p + 1)
  shape_indexed (s_name t s) u = other 1 2 t u (λ z. omega arith)
  shape_indexed (s_at {x = x} {ns = ns} t s) u = record { name = x; numbers = ns; at = record { rest = _; stands = s } }
  shape_indexed (s_sort t s) u = other 4 2 t u (λ z. omega arith)
  shape_indexed (s_pi t s) u = other 5 2 t u (λ z. omega arith)
  shape_indexed (s_lam t s) u = other 6 2 t u (λ z. omega arith)
  shape_indexed (s_app t s) u = other 7 2 t u (λ z. omega arith)

  pub plain_within : Plain tree p → p + 2 ≤ length tree
  plain_within a = shape_within (shape tree p _ _ a.at)

  pub plain_tagged : Plain tree p → TagOf (get_or tree p 0) None → ⊥
  plain_tagged a = shape_tagged (shape tree p _ _ a.at)

  pub plain_named : Plain tree p → (get_or tree p 0 ≡ 7 → ⊥) → (get_or tree p 0 ≡ 4 → ⊥) → Named tree (p + 1)
  plain_named a = shape_named (shape tree p _ _ a.at)

  pub plain_name : Plain tree p → get_or tree p 0 ≡ 1 → Named tree (p + 1)
  plain_name a u = plain_named a (λ z. omega arith) (λ z. omega arith)

  pub plain_indexed : Plain tree p → get_or tree p 0 ≡ 2 → Indexed tree (p + 1)
  plain_indexed a = shape_indexed (shape tree p _ _ a.at)

  -- Where the parts begin.
  pub parts_app : {e : Expr} {rest : List ℕ} → Shape tree p e rest → get_or tree p 0 ≡ 7 → PartsAt tree p e rest (p + 1)
  parts_app (s_name t s) u = other 1 7 t u (λ z. omega arith)
  parts_app (s_at t s) u = other 2 7 t u (λ z. omega arith)
  parts_app (s_sort t s) u = other 4 7 t u (λ z. omega arith)
  parts_app (s_pi t s) u = other 5 7 t u (λ z. omega arith)
  parts_app (s_lam t s) u = other 6 7 t u (λ z. omega arith)
  parts_app (s_app t s) u = record { stands = s; later = omega arith; within = let h = shape_within (s_app t s) in omega arith }

  pub parts_sort : {e : Expr} {rest : List ℕ} → Shape tree p e rest → get_or tree p 0 ≡ 4 → PartsAt tree p e rest (p + 2)
  parts_sort (s_name t s) u = other 1 4 t u (λ z. omega arith)
  parts_sort (s_at t s) u = other 2 4 t u (λ z. omega arith)
  parts_sort (s_sort t s) u = record {
    stands = ap (λ (k : ℕ). drop k tree) (let z : p + 2 ≡ p + 1 + 1 = omega arith in z) ∙ tail tree (p + 1) _ _ s;
    later = omega arith;
    within = shape_within (s_sort t s);
  }
  parts_sort (s_pi t s) u = other 5 4 t u (λ z. omega arith)
  parts_sort (s_lam t s) u = other 6 4 t u (λ z. omega arith)
  parts_sort (s_app t s) u = other 7 4 t u (λ z. omega arith)

  two : p + 2 + get_or tree (p + 1) 0 ≡ p + 1 + 1 + get_or tree (p + 1) 0
  two = omega arith

  behind : (x : Name) (r : List ℕ) → drop (p + 1) tree ≡ put_name x r → drop (p + 2 + get_or tree (p + 1) 0) tree ≡ r
  behind x r s = ap (λ (k : ℕ). drop k tree) two ∙ name_behind tree (p + 1) x r s

  inside : (x : Name) (r : List ℕ) → drop (p + 1) tree ≡ put_name x r → p + 2 + get_or tree (p + 1) 0 ≤ length tree
  inside x r s = let h = named_within tree (p + 1) (record { name = x; at = record { rest = r; stands = s } }) in omega arith

  pub parts_name : {e : Expr} {rest : List ℕ} → Shape tree p e rest → (get_or tree p 0 ≡ 7 → ⊥) → (get_or tree p 0 ≡ 4 → ⊥) → (get_or tree p 0 ≡ 2 → ⊥) → PartsAt tree p e rest (p + 2 + get_or tree (p + 1) 0)
  parts_name (s_name t s) u v w = record { stands = behind _ _ s; later = omega arith; within = inside _ _ s }
  parts_name (s_at t s) u v w = absurd (w t)
  parts_name (s_sort t s) u v w = absurd (v t)
  parts_name (s_pi t s) u v w = record { stands = behind _ _ s; later = omega arith; within = inside _ _ s }
  parts_name (s_lam t s) u v w = record { stands = behind _ _ s; later = omega arith; within = inside _ _ s }
  parts_name (s_app t s) u v w = absurd (u t)

  pub numbers_named : Plain tree p → get_or tree p 0 ≡ 2 → Named tree (p + 2 + get_or tree (p + 1) 0)
  numbers_named a u = let i = plain_indexed a u in
      tr (Named tree) (sym two) (record { name = i.numbers; at = indexed_numbers tree (p + 1) i.name i.numbers i.at })

  pub parts_indexed : {e : Expr} {rest : List ℕ} → Shape tree p e rest → get_or tree p 0 ≡ 2
      → PartsAt tree p e rest (p + 2 + get_or tree (p + 1) 0 + 1 + get_or tree (p + 2 + get_or tree (p + 1) 0) 0)
  parts_indexed (s_name t s) u = other 1 2 t u (λ z. omega arith)
  parts_indexed (s_at {x = x} {ns = ns} {rest = rest} t s) u =
      let h : drop (p + 2 + get_or tree (p + 1) 0) tree ≡ put_name ns rest = behind x _ s in
      let k = named_within tree (p + 2 + get_or tree (p + 1) 0) (record { name = ns; at = record { rest = rest; stands = h } }) in
      record { stands = name_behind tree _ ns rest h; later = omega arith; within = omega arith }
  parts_indexed (s_sort t s) u = other 4 2 t u (λ z. omega arith)
  parts_indexed (s_pi t s) u = other 5 2 t u (λ z. omega arith)
  parts_indexed (s_lam t s) u = other 6 2 t u (λ z. omega arith)
  parts_indexed (s_app t s) u = other 7 2 t u (λ z. omega arith)

  -- What the node becomes.
  module _ (gs : List Global) (ys : List Name) where
    pub node_name : {e : Expr} {rest : List ℕ} → Shape tree p e rest → get_or tree p 0 ≡ 1 → (r : Option Sign) → ((x : Name) → NameAt tree (p + 1) x → r ≡ term_sign (name_term gs ys x)) → r ≡ node_sign_lem gs ys e
    node_name (s_name t s) u r f = f _ (record { rest = _; stands = s })
    node_name (s_at t s) u r f = other 2 1 t u (λ z. omega arith)
    node_name (s_sort t s) u r f = other 4 1 t u (λ z. omega arith)
    node_name (s_pi t s) u r f = other 5 1 t u (λ z. omega arith)
    node_name (s_lam t s) u r f = other 6 1 t u (λ z. omega arith)
    node_name (s_app t s) u r f = other 7 1 t u (λ z. omega arith)

    pub node_indexed : {e : Expr} {rest : List ℕ} → Shape tree p e rest → get_or tree p 0 ≡ 2 → (r : Option Sign) → ((x : Name) (ns : List ℕ) → IndexedAt tree (p + 1) x ns → r ≡ term_sign (indexed_term gs ys x ns)) → r ≡ node_sign_lem gs ys e
    node_indexed (s_name t s) u r f = other 1 2 t u (λ z. omega arith)
    node_indexed (s_at t s) u r f = f _ _ (record { rest = _; stands = s })
    node_indexed (s_sort t s) u r f = other 4 2 t u (λ z. omega arith)
    node_indexed (s_pi t s) u r f = other 5 2 t u (λ z. omega arith)
    node_indexed (s_lam t s) u r f = other 6 2 t u (λ z. omega arith)
    node_indexed (s_app t s) u r f = other 7 2 t u (λ z. omega arith)

    pub node_sort : {e : Expr} {rest : List ℕ} → Shape tree p e rest → get_or tree p 0 ≡ 4 → Some (Sort record { 0 = get_or tree (p + 1) 0 }) ≡ node_sign_lem gs ys e
    node_sort (s_name t s) u = other 1 4 t u (λ z. omega arith)
    node_sort (s_at t s) u = other 2 4 t u (λ z. omega arith)
    node_sort (s_sort t s) u = ap (λ (i : ℕ). Some (Sort record { 0 = i })) (read_first tree (p + 1) _ _ s)
    node_sort (s_pi t s) u = other 5 4 t u (λ z. omega arith)
    node_sort (s_lam t s) u = other 6 4 t u (λ z. omega arith)
    node_sort (s_app t s) u = other 7 4 t u (λ z. omega arith)

    pub node_pi : {e : Expr} {rest : List ℕ} → Shape tree p e rest → get_or tree p 0 ≡ 5 → Some Pi ≡ node_sign_lem gs ys e
    node_pi (s_name t s) u = other 1 5 t u (λ z. omega arith)
    node_pi (s_at t s) u = other 2 5 t u (λ z. omega arith)
    node_pi (s_sort t s) u = other 4 5 t u (λ z. omega arith)
    node_pi (s_pi t s) u = refl
    node_pi (s_lam t s) u = other 6 5 t u (λ z. omega arith)
    node_pi (s_app t s) u = other 7 5 t u (λ z. omega arith)

    pub node_lam : {e : Expr} {rest : List ℕ} → Shape tree p e rest → get_or tree p 0 ≡ 6 → Some Lam ≡ node_sign_lem gs ys e
    node_lam (s_name t s) u = other 1 6 t u (λ z. omega arith)
    node_lam (s_at t s) u = other 2 6 t u (λ z. omega arith)
    node_lam (s_sort t s) u = other 4 6 t u (λ z. omega arith)
    node_lam (s_pi t s) u = other 5 6 t u (λ z. omega arith)
    node_lam (s_lam t s) u = refl
    node_lam (s_app t s) u = other 7 6 t u (λ z. omega arith)

    pub node_app : {e : Expr} {rest : List ℕ} → Shape tree p e rest → (get_or tree p 0 ≡ 1 → ⊥) → (get_or tree p 0 ≡ 2 → ⊥) → (get_or tree p 0 ≡ 4 → ⊥) → (get_or tree p 0 ≡ 5 → ⊥) → (get_or tree p 0 ≡ 6 → ⊥) → Some App ≡ node_sign_lem gs ys e
    node_app (s_name t s) u v w x y = absurd (u t)
    node_app (s_at t s) u v w x y = absurd (v t)
    node_app (s_sort t s) u v w x y = absurd (w t)
    node_app (s_pi t s) u v w x y = absurd (x t)
    node_app (s_lam t s) u v w x y = absurd (y t)
    node_app (s_app t s) u v w x y = refl

-- A name that is bound, and one that is not.
pub name_bound : (gs : List Global) (ys : List Name) (x : Name) (n : ℕ) → Some n ≡ index_found ys x → Some (Var record { 0 = n }) ≡ term_sign (name_term gs ys x)
name_bound gs ys x n e = go (index_of ys x) e
  where
    go : (o : M.Option ℕ) → Some n ≡ option o None Some → Some (Var record { 0 = n }) ≡ term_sign (option o (option (lookup gs x) M.none (λ g. M.some (const g.head))) (λ k. M.some (var k)))
    go M.none e = absurd (none-some _ (sym e))
    go (M.some k) e = cc

pub name_free : (gs : List Global) (ys : List Name) (x : Name) → None ≡ index_found ys x → global_sign gs x ≡ term_sign (name_term gs ys x)
name_free gs ys x e = go (index_of ys x) e (lookup gs x)
  where
    go : (o : M.Option ℕ) → None ≡ option o None Some → (q : M.Option Global) → option q None (λ g. Some (root (const g.head))) ≡ term_sign (option o (option q M.none (λ g. M.some (const g.head))) (λ k. M.some (var k)))
    go M.none e M.none = refl
    go M.none e (M.some g) = refl
    go (M.some k) e q = absurd (none-some _ e)

pub indexed_bound : (gs : List Global) (ys : List Name) (x : Name) (ns : List ℕ) (n : ℕ) → Some n ≡ index_found ys x → None ≡ term_sign (indexed_term gs ys x ns)
indexed_bound gs ys x ns n e = go (index_of ys x) e
  where
    go : (o : M.Option ℕ) → Some n ≡ option o None Some → None ≡ term_sign (option o (option (indexed_head gs x ns) M.none (λ h. M.some (const h))) (λ k. M.none))
    go M.none e = absurd (none-some _ (sym e))
    go (M.some k) e = refl

pub indexed_free : (gs : List Global) (ys : List Name) (x : Name) (ns : List ℕ) → None ≡ index_found ys x → head_sign (indexed_head gs x ns) ≡ term_sign (indexed_term gs ys x ns)
indexed_free gs ys x ns e = go (index_of ys x) e (indexed_head gs x ns)
  where
    go : (o : M.Option ℕ) → None ≡ option o None Some → (q : M.Option Head) → head_sign q ≡ term_sign (option o (option q M.none (λ h. M.some (const h))) (λ k. M.none))
    go M.none e M.none = refl
    go M.none e (M.some h) = refl
    go (M.some k) e q = absurd (none-some _ e)
