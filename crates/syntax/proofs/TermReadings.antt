-- What the readers of terms and scripts do, step by step, in the order in which the parser tests.
use Rattle.std.proofs.Common.{◌≡◌, ℕ, zero, suc, ◌*◌, ◌<◌, ◌≤◌, Bool, true, false, cond, List, [], ◌∷◌, length, is_err, Ok, Err, Result, sym, refl, ap, ◌∙◌, subst as tr, arith}
use mathlib.Core.Option.{Option, some, none}
use Rattle.std.proofs.lemmas.Bool.{false≢true}
use Rattle.syntax.specs.Surface.{Name, same, Expr}
use Rattle.syntax.specs.Tokens.{tokens}
use Rattle.syntax.specs.Grammar.{t_lp, t_rp, t_semi, t_to, t_at, t_hole, k_type, k_by, k_fun}
use Rattle.syntax.specs.Reader.{bind, then, eat, Readers, readers, read_term, read_script, read_atom, read_arrow, read_binder, read_exact, read_apply}
use Rattle.syntax.specs.Parsing.{Done, FindsNone, Follows, Opened, Opens, Links, Frame, f_pi, wrap, plug, lower, level, read_bound, read_uses, read_leaf, read_block, expr_words}
use Rattle.syntax.specs.Surface.{expr_stage, Param}
use Rattle.syntax.specs.declared.problem.Stop.{Stop}
use Rattle.syntax.specs.declared.write.Writer.{Writer}
use Rattle.syntax.specs.declared.reading.Read.{Read}
use Rattle.syntax.specs.declared.reading.Link.{Link}
use Rattle.syntax.specs.declared.reading.Link.TheVariants.{More, Last}
use Rattle.syntax.proofs.Gives.{option_is, option_not, then_is}
use Rattle.syntax.proofs.Scanning.{same_true}

-- What follows when the first part is known.
pub bind_is : {A C : Type 0} (o : Option A) (f : A → Option C) {x : A} {z : Option C} → o ≡ some x → f x ≡ z → bind o f ≡ z
bind_is o f e k = rw e k

pub then_not : {A C : Type 0} (o : Option (A × List Name)) (f : A → List Name → Option C) → o ≡ none → then o f ≡ none
then_not o f e = rw e refl

-- The readers at n calls.
pub term_at : (n : ℕ) (ts : List Name) → (readers n).term ts ≡ lower read_term n ts
term_at zero ts = refl
term_at (suc n) ts = refl

pub script_at : (n : ℕ) (ts : List Name) → (readers n).script ts ≡ lower read_script n ts
script_at zero ts = refl
script_at (suc n) ts = refl

pub lower-none : {A : Type 0} (g : Readers → List Name → Option A) (ts : List Name) → ((m : ℕ) → length ts ≤ m → g (readers m) ts ≡ none) → FindsNone (lower g) ts
lower-none g ts e zero h = refl
lower-none g ts e (suc m) h = e m (omega arith)

pub lower-some : {A : Type 0} (g : Readers → List Name → Option A) (ts : List Name) (x : A) → ((m : ℕ) → length ts ≤ m → g (readers m) ts ≡ some x) → (n : ℕ) → length ts < n → lower g n ts ≡ some x
lower-some g ts x e zero h = absurd (let z : ⊥ = omega arith in z)
lower-some g ts x e (suc m) h = e m (omega arith)

pub lower_is : {A : Type 0} (f : ℕ → List Name → Option A) (g : Readers → List Name → Option A) (ts : List Name) → ((m : ℕ) → g (readers m) ts ≡ f (suc m) ts) → (n : ℕ) → length ts < n → lower g n ts ≡ f n ts
lower_is f g ts e zero h = absurd (let z : ⊥ = omega arith in z)
lower_is f g ts e (suc m) h = e m

-- Behind a word: what the reader g₁ does with the tokens us, the reader g₂ does with ts.
pub none-up : {A : Type 0} (g₁ g₂ : Readers → List Name → Option A) (ts us : List Name) → ((r : Readers) → g₂ r ts ≡ g₁ r us) → length us < length ts → FindsNone (level g₁) us → FindsNone (lower g₂) ts
none-up g₁ g₂ ts us e l d = lower-none g₂ ts (λ m h. e (readers m) ∙ d m (omega arith))

pub done_up : (g₁ g₂ : Readers → List Name → Option (Expr × List Name)) (ts us : List Name) (b₁ b₂ : ℕ) (before after : Writer) (q : Read) → ((r : Readers) → g₂ r ts ≡ g₁ r us) → length us < length ts → b₁ ≤ b₂
    → Done (level g₁) expr_words expr_stage 1 us b₁ before after q → Done (lower g₂) expr_words expr_stage 1 ts b₂ before after q
done_up g₁ g₂ ts us b₁ b₂ before after q e l k d =
    record { value = d.value; reads = lower-some g₂ ts _ (λ m h. e (readers m) ∙ d.reads m (omega arith)); wrote = d.wrote; stage = d.stage; fewer = omega (arith, d.fewer); room = omega (arith, d.room) }

pub opened_up : (g₁ g₂ : Readers → List Name → Option (Expr × List Name)) (s : ℕ → List Name → Option (Expr × List Name)) (ts us : List Name) (b₁ b₂ : ℕ) (before after : Writer) (q : Read)
    → ((r : Readers) → g₂ r ts ≡ g₁ r us) → length us < length ts → b₁ ≤ b₂ → Opened 1 g₁ s us b₁ before after q → Opened 0 g₂ s ts b₂ before after q
opened_up g₁ g₂ s ts us b₁ b₂ before after q e l k d =
    record { frame = d.frame; opens = λ n h. e (readers n) ∙ d.opens n (omega arith); wrote = d.wrote; stage = d.stage; fewer = omega (arith, d.fewer); room = omega (arith, d.room) }

pub follows_up : (g₁ g₂ : Readers → List Name → Option (Expr × List Name)) (ts us : List Name) (b₁ b₂ : ℕ) (before after : Writer) (r : Result Read Stop) → ((r : Readers) → g₂ r ts ≡ g₁ r us) → length us < length ts → b₁ ≤ b₂
    → Follows (level g₁) expr_words expr_stage 1 us b₁ before after r → Follows (lower g₂) expr_words expr_stage 1 ts b₂ before after r
follows_up g₁ g₂ ts us b₁ b₂ before after (Ok q) e l k d = done_up g₁ g₂ ts us b₁ b₂ before after q e l k d
follows_up g₁ g₂ ts us b₁ b₂ before after (Err x) e l k d = none-up g₁ g₂ ts us e l d

-- Of the same tokens.
pub links_as : (g₁ g₂ : Readers → List Name → Option (Expr × List Name)) (s : ℕ → List Name → Option (Expr × List Name)) (bs : List ℕ) (before after : Writer) (r : Result Link Stop)
    → ((r : Readers) → g₂ r (tokens bs) ≡ g₁ r (tokens bs)) → Links g₁ s bs before after r → Links g₂ s bs before after r
links_as g₁ g₂ s bs before after (Ok (More q)) e d =
    record { frame = d.frame; opens = λ n h. e (readers n) ∙ d.opens n h; wrote = d.wrote; stage = d.stage; fewer = d.fewer; room = d.room }
links_as g₁ g₂ s bs before after (Ok (Last q)) e d =
    record { value = d.value; reads = lower-some g₂ (tokens bs) _ (λ m h. e (readers m) ∙ d.reads (suc m) (omega arith)); wrote = d.wrote; stage = d.stage; fewer = d.fewer; room = d.room }
links_as g₁ g₂ s bs before after (Err x) e d = lower-none g₂ (tokens bs) (λ m h. e (readers m) ∙ d (suc m) (omega arith))

-- What a link is.
pub links_more : (g : Readers → List Name → Option (Expr × List Name)) (s : ℕ → List Name → Option (Expr × List Name)) (bs : List ℕ) (before after : Writer) (l : Link) (q : Read)
    → l ≡ More q → Links g s bs before after (Ok l) → Opened 0 g s (tokens bs) (4 * length bs) before after q
links_more g s bs before after l q e d = tr (λ x. Links g s bs before after (Ok x)) e d

pub links_last : (g : Readers → List Name → Option (Expr × List Name)) (s : ℕ → List Name → Option (Expr × List Name)) (bs : List ℕ) (before after : Writer) (l : Link) (q : Read)
    → l ≡ Last q → Links g s bs before after (Ok l) → Done (lower g) expr_words expr_stage 1 (tokens bs) (4 * length bs) before after q
links_last g s bs before after l q e d = tr (λ x. Links g s bs before after (Ok x)) e d

-- An error says that nothing is found.
pub links_fail : (g : Readers → List Name → Option (Expr × List Name)) (s : ℕ → List Name → Option (Expr × List Name)) (bs : List ℕ) (before after : Writer) (r : Result Link Stop)
    → is_err r ≡ true → FindsNone (lower g) (tokens bs) → Links g s bs before after r
links_fail g s bs before after (Ok l) e d = absurd (false≢true e)
links_fail g s bs before after (Err x) e d = d

pub opens_fail : (g : Readers → List Name → Option (Expr × List Name)) (s : ℕ → List Name → Option (Expr × List Name)) (ts : List Name) (budget : ℕ) (before after : Writer) (r : Result Read Stop)
    → is_err r ≡ true → FindsNone (level g) ts → Opens g s ts budget before after r
opens_fail g s ts budget before after (Ok q) e d = absurd (false≢true e)
opens_fail g s ts budget before after (Err x) e d = d

-- A type in brackets, and what must come behind it.
pub bound_then : {C : Type 0} (r : Readers) (ts : List Name) (k : Name) (f : Expr → List Name → Option C)
    → then (r.term ts) (λ a us. bind (eat t_rp us) (λ vs. bind (eat k vs) (f a))) ≡ then (read_bound r ts) (λ a vs. bind (eat k vs) (f a))
bound_then {C} r ts k f = go (r.term ts)
  where
    inner : (a : Expr) (o : Option (List Name)) → bind o (λ vs. bind (eat k vs) (f a)) ≡ then (bind o (λ vs. some (a, vs))) (λ a vs. bind (eat k vs) (f a))
    inner a none = refl
    inner a (some vs) = refl

    go : (o : Option (Expr × List Name)) → then o (λ a us. bind (eat t_rp us) (λ vs. bind (eat k vs) (f a))) ≡ then (then o (λ a us. bind (eat t_rp us) (λ vs. some (a, vs)))) (λ a vs. bind (eat k vs) (f a))
    go none = refl
    go (some p) = inner p.0 (eat t_rp p.1)

-- A body behind a frame.
pub wrap-then : (f : Frame) (o : Option (Expr × List Name)) → then o (λ b us. some (plug f b, us)) ≡ wrap f o
wrap-then f none = refl
wrap-then f (some p) = refl

-- A row of atoms, and what comes behind it.
pub uses-then : {C : Type 0} (r : Readers) (ts : List Name) (f : Expr → List Name → Option C) → then (read_atom r ts) (λ a us. then (r.row a us) f) ≡ then (read_uses r ts) f
uses-then r ts f = go (read_atom r ts)
  where
    go : (o : Option (Expr × List Name)) → then o (λ a us. then (r.row a us) f) ≡ then (then o r.row) f
    go none = refl
    go (some p) = refl

-- A row of atoms alone, and before an arrow.
pub arrow_none : (r : Readers) (ts : List Name) → read_uses r ts ≡ none → read_arrow r ts ≡ none
arrow_none r ts e = uses-then r ts _ ∙ then_not (read_uses r ts) _ e

pub arrow_alone : (r : Readers) (ts us : List Name) (a : Expr) → read_uses r ts ≡ some (a, us) → eat t_to us ≡ none → read_arrow r ts ≡ some (a, us)
arrow_alone r ts us a e d = uses-then r ts _ ∙ then_is (read_uses r ts) _ e (option_not (eat t_to us) _ _ d refl)

pub arrow_to : (r : Readers) (ts us vs : List Name) (a : Expr) → read_uses r ts ≡ some (a, us) → eat t_to us ≡ some vs → read_arrow r ts ≡ wrap (f_pi [] a) (r.term vs)
arrow_to r ts us vs a e d = uses-then r ts _ ∙ then_is (read_uses r ts) _ e (option_is (eat t_to us) _ _ d (wrap-then (f_pi [] a) (r.term vs)))

-- What is applied, and then its arguments.
pub apply_args : (r : Readers) (ts us : List Name) (a : Expr) → read_exact r ts ≡ some (a, us) → read_apply r ts ≡ r.args a us
apply_args r ts us a e = parts (r.term ts) ∙ then_is (read_exact r ts) r.args e refl
  where
    inner : (b : Expr) (o : Option (List Name)) → bind o (λ vs. r.args b vs) ≡ then (bind o (λ vs. some (b, vs))) r.args
    inner b none = refl
    inner b (some vs) = refl

    parts : (o : Option (Expr × List Name)) → then o (λ b vs. bind (eat t_semi vs) (λ ws. r.args b ws)) ≡ then (then o (λ b vs. bind (eat t_semi vs) (λ ws. some (b, ws)))) r.args
    parts none = refl
    parts (some p) = inner p.0 (eat t_semi p.1)

-- A term that begins with neither fun nor a binder.
pub term_arrow : (r : Readers) (ts : List Name) → eat k_fun ts ≡ none → read_binder ts ≡ none → read_term r ts ≡ read_arrow r ts
term_arrow r ts e d = rw (e, d) refl

-- Where one token comes first, no other does.
pub eat_other : (k j : Name) (ts us : List Name) → eat k ts ≡ some us → same k j ≡ false → eat j ts ≡ none
eat_other k j [] us e d = refl
eat_other k j (w ∷ ts) us e d = go (same w k) refl
  where
    go : (b : Bool) → same w k ≡ b → eat j (w ∷ ts) ≡ none
    go true p = rw (same_true w k p, d) refl
    go false p = absurd (none≢some (sym (ap (λ (b : Bool). cond b (some ts) none) p) ∙ e))
      where
        none≢some : ◌≡◌ {A = Option (List Name)} none (some us) → ⊥
        none≢some q = let z : ◌≡◌ {A = ℕ} 0 1 = cc in (let f : ⊥ = omega arith in f)

-- An atom that begins with neither a bracket nor by, and one behind by.
pub atom_leaf : (r : Readers) (ts : List Name) → eat t_lp ts ≡ none → eat k_by ts ≡ none → read_atom r ts ≡ read_leaf ts
atom_leaf r ts e d = rw (e, d) refl

pub atom_block : (r : Readers) (ts us : List Name) → eat t_lp ts ≡ none → eat k_by ts ≡ some us → read_atom r ts ≡ read_block r us
atom_block r ts us e d =
    rw (e, eat_other k_by t_at ts us d refl, eat_other k_by k_type ts us d refl, eat_other k_by t_hole ts us d refl, d) refl

-- A parameter's type and its closing bracket.
pub bound_parts : (r : Readers) (ts : List Name) (x : Name)
    → then {C = Param × List Name} (r.term ts) (λ b vs. bind (eat t_rp vs) (λ ws. some (record { name = x; type = b }, ws))) ≡ then (read_bound r ts) (λ b vs. some (record { name = x; type = b }, vs))
bound_parts r ts x = parts (r.term ts)
  where
    inner : (b : Expr) (o : Option (List Name)) → bind {C = Param × List Name} o (λ ws. some (record { name = x; type = b }, ws)) ≡ then (bind o (λ ws. some (b, ws))) (λ b vs. some (record { name = x; type = b }, vs))
    inner b none = refl
    inner b (some ws) = refl

    parts : (o : Option (Expr × List Name)) → then {C = Param × List Name} o (λ b vs. bind (eat t_rp vs) (λ ws. some (record { name = x; type = b }, ws))) ≡ then (then o (λ b vs. bind (eat t_rp vs) (λ ws. some (b, ws)))) (λ b vs. some (record { name = x; type = b }, vs))
    parts none = refl
    parts (some p) = inner p.0 (eat t_rp p.1)
