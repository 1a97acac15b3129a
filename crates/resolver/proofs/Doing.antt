-- The state of the walk, from node to node.
use Rattle.std.proofs.Common.{◌≡◌, ℕ, suc, ◌+◌, ◌-◌, ◌*◌, ◌≤◌, Bool, true, false, ◌&&◌, List, [], ◌∷◌, ◌++◌, length, take, drop, Some, None, Err, Option, Result, sym, refl, ap, ◌∙◌, subst as tr, append_assoc, append-nil, arith, length-append, length-drop}
use Rattle.std.proofs.lemmas.List.{drop-drop, take_all}
use Rattle.theory.specs.Terms.{Term}
use Rattle.theory.proofs.Options.{true-false}
use Rattle.terms.specs.Words.{put, puts, has_parts, sign_words}
use Rattle.terms.specs.Writing.{Appends}
use Rattle.terms.specs.declared.sign.Sign.{Sign}
use Rattle.terms.proofs.Nodes.{put-length}
use Rattle.terms.proofs.Appending.{append_then, append_as}
use Rattle.terms.proofs.Rewriting.{append_start}
use Rattle.syntax.specs.Surface.{Name, Expr}
use Rattle.syntax.specs.Tree.{put_expr}
use Rattle.elaboration.specs.Elaboration.{Global, Elab}
use Rattle.std.specs.Option.{ok_or}
use Rattle.resolver.specs.declared.walk.Nowhere.{Nowhere}
use Rattle.resolver.specs.Resolving.{basic, nodes, resolves, resolved}
use Rattle.resolver.specs.Names.{Named, ScopeAt}
use Rattle.resolver.specs.Nodes.{node_sign_lem, put_exprs, PlainAt, Plain, Known, PartsAt}
use Rattle.resolver.specs.Frames.{Frame, waits, body, under, put_frames, opened, entered, kind, FramesAt, Framed, PushesTwo, Setting, Written}
use Rattle.resolver.proofs.Resolution.{sound, complete}
use Rattle.resolver.proofs.Plain.{resolved-size}
use Rattle.resolver.proofs.Shapes.{shape}
use Rattle.resolver.proofs.Walked.{bare, scope_of, exprs, terms_of, all_resolve, AllPlain, NamesAt, Fits, frames_scope, Binary, binary, Leaf, leaf, nowhere, nodes-some}

pub record Doing (tree : List ℕ) (p : ℕ) (stack₀ : List ℕ) (top : ℕ) (out₀ : List ℕ) (start : ℕ) (gs : List Global) (ys : List Name) (e : Expr) (rest : List ℕ) (place end free : ℕ) (out stack : List ℕ) : Type 0 where
  pub expr : Expr
  pub frames : List Frame
  pub written : List ℕ
  pub reads : drop place tree ≡ put_expr expr (put_exprs (exprs frames) rest)
  pub plain : basic expr ≡ true
  pub plains : AllPlain frames
  pub framed : FramesAt stack free top frames (drop top stack₀)
  pub named : NamesAt tree frames
  pub writes : Appends out₀ start written out end
  pub says : written ++ put (resolved gs (scope_of ys frames) expr) (puts (terms_of gs ys frames) []) ≡ put (resolved gs ys e) []
  pub oks : resolves gs ys e ≡ (resolves gs (scope_of ys frames) expr && all_resolve gs ys frames)
  pub few : 2 * length frames + nodes expr ≤ nodes e
  pub fits : Fits (nodes e) frames

abbrev pub DoingAll : List ℕ → ℕ → List ℕ → List ℕ → ℕ → List ℕ → ℕ → ℕ → ℕ → ℕ → List ℕ → List ℕ → Type 0
DoingAll tree p table stack₀ top out₀ start place end free out stack =
    (gs : List Global) (ys : List Name) (e : Expr) (rest : List ℕ) → Setting tree p table stack₀ top out₀ start gs ys e rest → Doing tree p stack₀ top out₀ start gs ys e rest place end free out stack

and_some : (a : Bool) → a ≡ (a && true)
and_some true = refl
and_some false = refl

pub doing_start : (tree : List ℕ) (p : ℕ) (table stack : List ℕ) (top : ℕ) (out : List ℕ) (start : ℕ) → DoingAll tree p table stack top out start p start top out stack
doing_start tree p table stack top out start gs ys e rest s = record {
  expr = e;
  frames = [];
  written = [];
  reads = s.stands.stands;
  plain = s.stands.plain;
  plains = tt;
  framed = record { words = refl; count = omega arith };
  named = tt;
  writes = append_start out start;
  says = refl;
  oks = and_some _;
  few = omega arith;
  fits = tt;
}

-- The place that an error names.
pub err_place : {A : Type 0} {o : Option A} {n : Nowhere} {p : ℕ} → Err n ≡ ok_or o (record { 0 = p }) → o ≡ None → n.0 ≡ p
err_place {A} {o} {n} {p} e z =
    let r : Nowhere = record { 0 = p } in
    let h : ◌≡◌ {A = Result A Nowhere} (Err n) (Err r) = e ∙ ap (λ (q : Option A). ok_or q r) z in
    let i : n ≡ r = cc in ap (λ (x : Nowhere). x.0) i

-- The words below all frames.
twice : (fs : List Frame) → 2 * suc (length fs) ≡ suc (suc (2 * length fs))
twice fs = omega arith

frames_base : (fs : List Frame) (r : List ℕ) → drop (2 * length fs) (put_frames fs r) ≡ r
frames_base [] r = refl
frames_base (waits p a ∷ fs) r = ap (λ (k : ℕ). drop k (put_frames (waits p a ∷ fs) r)) (twice fs) ∙ frames_base fs r
frames_base (body p x b ∷ fs) r = ap (λ (k : ℕ). drop k (put_frames (body p x b ∷ fs) r)) (twice fs) ∙ frames_base fs r
frames_base (under p x ∷ fs) r = ap (λ (k : ℕ). drop k (put_frames (under p x ∷ fs) r)) (twice fs) ∙ frames_base fs r

module _ {tree : List ℕ} {p : ℕ} {table stack₀ : List ℕ} {top : ℕ} {out₀ : List ℕ} {start : ℕ} {gs : List Global} {ys : List Name} {e : Expr} {rest : List ℕ} (s : Setting tree p table stack₀ top out₀ start gs ys e rest)
    {place end free : ℕ} {out stack : List ℕ} (d : Doing tree p stack₀ top out₀ start gs ys e rest place end free out stack) where
  pub doing_at : PlainAt tree place d.expr (put_exprs (exprs d.frames) rest)
  doing_at = record { stands = d.reads; plain = d.plain }

  pub doing_plain : Plain tree place
  doing_plain = record { expr = d.expr; rest = _; at = doing_at }

  pub doing_scope : ScopeAt tree (take (length stack - free) (drop free stack)) (scope_of ys d.frames)
  doing_scope = tr (λ (z : List ℕ). ScopeAt tree z (scope_of ys d.frames)) (sym (take_all (length stack - free) (drop free stack) (omega (arith, length-drop free stack)) ∙ d.framed.words)) (frames_scope d.frames s.scope d.named)

  pub doing_known : Known tree table (take (length stack - free) (drop free stack))
  doing_known = record { globals = record { globals = gs; at = s.globals }; scope = record { names = _; at = doing_scope } }

  pub doing_framed : length stack ≡ length stack₀ → Framed stack free top
  doing_framed l = record { frames = d.frames; base = _; at = d.framed; within = omega (arith, s.within) }

  pub doing_base : drop top stack ≡ drop top stack₀
  doing_base =
      ap (λ (k : ℕ). drop k stack) (let z : top ≡ free + 2 * length d.frames = omega (arith, d.framed.count) in z)
      ∙ sym (drop-drop (2 * length d.frames) free stack) ∙ ap (drop (2 * length d.frames)) d.framed.words ∙ frames_base d.frames (drop top stack₀)

  pub doing_room : length out ≡ length out₀ → end + 3 ≤ length out
  doing_room l =
      omega (
        arith,
        d.writes.ends,
        s.room,
        ap length d.says,
        length-append d.written (put (resolved gs (scope_of ys d.frames) d.expr) (puts (terms_of gs ys d.frames) [])),
        put-length (resolved gs (scope_of ys d.frames) d.expr) (puts (terms_of gs ys d.frames) []),
        put-length (resolved gs ys e) [],
        resolved-size gs ys e,
        resolved-size gs (scope_of ys d.frames) d.expr,
        nodes-some d.expr,
      )

  pub doing_nowhere : None ≡ node_sign_lem gs (scope_of ys d.frames) d.expr → ((t : Term) → Elab gs ys e t → ⊥) × Named tree (place + 1)
  doing_nowhere n =
      let w = nowhere tree place gs (scope_of ys d.frames) (shape tree place _ _ doing_at) n in
      (λ t x. true-false (sym (complete (bare s.globals) x s.stands.plain).0 ∙ d.oks ∙ ap (λ (b : Bool). b && all_resolve gs ys d.frames) w.0), w.1)

  module _ (sign : Sign) (is : Some sign ≡ node_sign_lem gs (scope_of ys d.frames) d.expr) where
    pub doing_binary : has_parts sign ≡ true → Binary tree gs ys d.frames (nodes e) (place + 1) d.expr sign
    doing_binary h = binary tree gs ys d.frames (nodes e) place sign (shape tree place _ _ doing_at) d.plain d.plains d.named d.few d.fits is h

    pub doing_low : has_parts sign ≡ true → 2 ≤ free
    doing_low h = let b = doing_binary h in omega (arith, s.depth, d.framed.count, b.few, nodes-some b.first)

    pub doing_leaf : has_parts sign ≡ false → Leaf gs (scope_of ys d.frames) d.expr sign
    doing_leaf h = leaf tree place gs (scope_of ys d.frames) sign (shape tree place _ _ doing_at) is h

    module _ {out₂ : List ℕ} {end₂ : ℕ} (q : Appends out end (sign_words sign) out₂ end₂) {next : ℕ} (r : PartsAt tree place d.expr (put_exprs (exprs d.frames) rest) next) where
      pub doing_in : has_parts sign ≡ true → {stack₂ : List ℕ} {free₂ : ℕ} → PushesTwo stack free (kind sign) (place + 1) stack₂ free₂ → Doing tree p stack₀ top out₀ start gs ys e rest next end₂ free₂ out₂ stack₂
      doing_in h w = let b = doing_binary h in record {
        expr = b.first;
        frames = b.frame ∷ d.frames;
        written = d.written ++ sign_words sign;
        reads = r.stands ∙ b.reads rest;
        plain = b.plain;
        plains = b.plains;
        framed = record { words = w.words ∙ ap (λ (z : List ℕ). kind sign ∷ (place + 1) ∷ z) d.framed.words ∙ sym (b.words (drop top stack₀)); count = omega (arith, d.framed.count, w.grows) };
        named = b.named;
        writes = append_then _ _ _ _ _ _ _ _ d.writes q;
        says = append_assoc d.written (sign_words sign) _ ∙ ap (λ (z : List ℕ). d.written ++ z) (sym b.says) ∙ d.says;
        oks = d.oks ∙ b.oks;
        few = b.few;
        fits = b.fits;
      }

      -- What is left behind a node without parts.
      left_reads : has_parts sign ≡ false → drop next tree ≡ put_exprs (exprs d.frames) rest
      left_reads h = r.stands ∙ ap (λ (z : List Expr). put_exprs z (put_exprs (exprs d.frames) rest)) (doing_leaf h).parts

      left_says : has_parts sign ≡ false → (d.written ++ sign_words sign) ++ puts (terms_of gs ys d.frames) [] ≡ put (resolved gs ys e) []
      left_says h = append_assoc d.written (sign_words sign) _ ∙ ap (λ (z : List ℕ). d.written ++ z) (sym ((doing_leaf h).says _)) ∙ d.says

      left_oks : has_parts sign ≡ false → resolves gs ys e ≡ all_resolve gs ys d.frames
      left_oks h = d.oks ∙ ap (λ (b : Bool). b && all_resolve gs ys d.frames) (doing_leaf h).oks

      pub doing_out : has_parts sign ≡ false → {stack₂ : List ℕ} {free₁ free₂ : ℕ} → FramesAt stack free₁ top (opened d.frames) (drop top stack₀) → (free₁ ≡ top → ⊥)
          → FramesAt stack₂ free₂ top (entered (opened d.frames)) (drop top stack₀) → Doing tree p stack₀ top out₀ start gs ys e rest next end₂ free₂ out₂ stack₂
      doing_out h {stack₂} {free₁} {free₂} o n = go d.frames (left_reads h) d.plains d.named (left_says h) (left_oks h) d.fits o
        where
          go : (fs : List Frame) → drop next tree ≡ put_exprs (exprs fs) rest → AllPlain fs → NamesAt tree fs → (d.written ++ sign_words sign) ++ puts (terms_of gs ys fs) [] ≡ put (resolved gs ys e) []
              → resolves gs ys e ≡ all_resolve gs ys fs → Fits (nodes e) fs → FramesAt stack free₁ top (opened fs) (drop top stack₀) → FramesAt stack₂ free₂ top (entered (opened fs)) (drop top stack₀)
              → Doing tree p stack₀ top out₀ start gs ys e rest next end₂ free₂ out₂ stack₂
          go [] reads plains named says oks fits o f = absurd (n (omega (arith, o.count)))
          go (waits q₁ a ∷ fs) reads plains named says oks fits o f = record {
            expr = a;
            frames = fs;
            written = d.written ++ sign_words sign;
            reads = reads;
            plain = plains.0;
            plains = plains.1;
            framed = f;
            named = named;
            writes = append_then _ _ _ _ _ _ _ _ d.writes q;
            says = says;
            oks = oks;
            few = fits.0;
            fits = fits.1;
          }
          go (body q₁ x b ∷ fs) reads plains named says oks fits o f = record {
            expr = b;
            frames = under q₁ x ∷ fs;
            written = d.written ++ sign_words sign;
            reads = reads;
            plain = plains.0;
            plains = plains.1;
            framed = f;
            named = named;
            writes = append_then _ _ _ _ _ _ _ _ d.writes q;
            says = says;
            oks = oks;
            few = omega (arith, fits.0);
            fits = fits.1;
          }
          go (under q₁ x ∷ fs) reads plains named says oks fits o f = go fs reads plains named.1 says oks fits o f

      pub doing_done : has_parts sign ≡ false → {free₁ : ℕ} → FramesAt stack free₁ top (opened d.frames) (drop top stack₀) → free₁ ≡ top → Written tree gs ys e rest out₀ start out₂ end₂ next
      doing_done h {free₁} o n = go d.frames (left_reads h) (left_says h) (left_oks h) o
        where
          go : (fs : List Frame) → drop next tree ≡ put_exprs (exprs fs) rest → (d.written ++ sign_words sign) ++ puts (terms_of gs ys fs) [] ≡ put (resolved gs ys e) []
              → resolves gs ys e ≡ all_resolve gs ys fs → FramesAt stack free₁ top (opened fs) (drop top stack₀) → Written tree gs ys e rest out₀ start out₂ end₂ next
          go [] reads says oks o = record {
            term = resolved gs ys e;
            elab = sound (bare s.globals) e oks;
            unique = λ t x. sym (complete (bare s.globals) x s.stands.plain).1;
            writes = append_as _ _ _ _ _ _ (sym (append-nil _) ∙ says) (append_then _ _ _ _ _ _ _ _ d.writes q);
            goes_on = reads;
          }
          go (waits q₁ a ∷ fs) reads says oks o = absurd (let z : ⊥ = omega (arith, o.count) in z)
          go (body q₁ x b ∷ fs) reads says oks o = absurd (let z : ⊥ = omega (arith, o.count) in z)
          go (under q₁ x ∷ fs) reads says oks o = go fs reads says oks o
