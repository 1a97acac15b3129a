-- What a recursor on a constructor contracts to, in words: so many applications, the case, the constructor's fields and recursive fields, and
-- for each recursive field the recursor's words with that field.
use Rattle.std.proofs.Common.{◌≡◌, ℕ, zero, suc, ◌+◌, List, [], ◌∷◌, ◌++◌, length, take, drop, sym, refl, ap, ◌∙◌, ap₂, arith, length-append, length-drop}
use mathlib.Core.Option.{some}
use lib.ListN.{get_elem?}
use Rattle.std.proofs.lemmas.List.{take_at}
use Rattle.theory.specs.Terms.{Head, h_con, h_rec, h_along, Term, const, app, apps}
use Rattle.theory.specs.Environment.{Constructor, DataType, Env, data_at}
use Rattle.theory.specs.Reduction.{spine, app_each, contract}
use Rattle.theory.proofs.Iota.{RecView, IotaView, by_rec, by_along, iota_view, contract-some, spine_head, spine-args, spine_is}
use Rattle.theory.proofs.WeakHead.{spine_last}
use Rattle.theory.proofs.Options.{some_inj, none-some}
use Rattle.terms.specs.Words.{put, puts}
use Rattle.terms.proofs.Nodes.{put_append, puts_append}
use Rattle.reduction.specs.Spines.{uses, head_term, head_of}
use Rattle.reduction.proofs.Spreading.{twos, spine_head_is, spine-length}

-- The words before the argument of an application, in front of each of the terms.
abbrev pub calls : List ℕ → List Term → List ℕ → List ℕ
calls p [] r = r
calls p (x ∷ xs) r = p ++ put x (calls p xs r)

abbrev pub prefix : Term → List ℕ
prefix f = 2 ∷ 0 ∷ 0 ∷ put f []

twos_more : (n : ℕ) (x : List ℕ) → twos n ++ (2 ∷ 0 ∷ 0 ∷ x) ≡ twos (suc n) ++ x
twos_more zero x = refl
twos_more (suc n) x = ap (λ (w : List ℕ). 2 ∷ 0 ∷ 0 ∷ w) (twos_more n x)

pub put-apps : (m : Term) (xs : List Term) (r : List ℕ) → put (apps m xs) r ≡ twos (length xs) ++ put m (puts xs r)
put-apps m [] r = refl
put-apps m (x ∷ xs) r = put-apps (app m x) xs r ∙ twos_more (length xs) (put m (put x (puts xs r)))

pub put_call : (f x : Term) (r : List ℕ) → put (app f x) r ≡ prefix f ++ put x r
put_call f x r = ap (λ (w : List ℕ). 2 ∷ 0 ∷ 0 ∷ w) (put_append f [] (put x r))

pub puts_each : (f : Term) (xs : List Term) (r : List ℕ) → puts (app_each f xs) r ≡ calls (prefix f) xs r
puts_each f [] r = refl
puts_each f (x ∷ xs) r = put_call f x (puts (app_each f xs) r) ∙ ap (λ (w : List ℕ). prefix f ++ put x w) (puts_each f xs r)

length_each : (f : Term) (xs : List Term) → length (app_each f xs) ≡ length xs
length_each f [] = refl
length_each f (x ∷ xs) = ap suc (length_each f xs)

-- The case m on the fields xs, of which the last ones, ys, are recursive.
pub case_words : (m f : Term) (xs ys : List Term) (r : List ℕ) (n : ℕ) → n ≡ length xs + length ys
    → put (apps m (xs ++ app_each f ys)) r ≡ twos n ++ put m (puts xs (calls (prefix f) ys r))
case_words m f xs ys r n q =
    put-apps m (xs ++ app_each f ys) r
    ∙ ap₂ (λ (k : ℕ) (w : List ℕ). twos k ++ put m w) (let z : length (xs ++ app_each f ys) ≡ n = omega (arith, length-append xs (app_each f ys), length_each f ys) in z)
    (puts_append xs (app_each f ys) r ∙ ap (puts xs) (puts_each f ys r))

-- The recursor without its last argument.
rec_again : (f a : Term) (h : Head) (n : ℕ) → (spine (app f a) []).head ≡ some h → length (spine (app f a) []).args ≡ suc n → apps (const h) (take n (spine (app f a) []).args) ≡ f
rec_again f a h n p l =
    ap (λ (ts : List Term). apps (const h) (take n ts)) (spine-args f (a ∷ []))
    ∙ (ap (apps (const h)) (take_at (spine f []).args (a ∷ []) n (omega (arith, spine-length f [], spine-length f (a ∷ [])))) ∙ sym (spine_is f [] (sym (spine_head f (a ∷ [])) ∙ p)))

-- A recursor's redex f a and what it contracts to.
pub record RecRedex (e : Env) (f a u : Term) : Type 0 where
  pub i : ℕ
  pub j : ℕ
  pub n : ℕ
  pub k : DataType
  pub c : Constructor
  pub m : Term
  pub head : head_of (head_term f) ≡ some (h_rec i j)
  pub at : data_at e i ≡ some k
  pub count : suc (uses f) ≡ length k.params + (2 + length k.cons)
  pub con_head : head_of (head_term a) ≡ some (h_con i n)
  pub con : get_elem? k.cons n ≡ some c
  pub full : uses a ≡ length k.params + (length c.fields + c.recs)
  pub case : get_elem? (spine f (a ∷ [])).args (length k.params + (1 + n)) ≡ some m
  pub words : put u [] ≡ twos (length c.fields + (c.recs + c.recs)) ++ put m (puts (drop (length k.params) (spine a []).args) (calls (prefix f) (drop (length k.params + length c.fields) (spine a []).args) []))

rec_of : (e : Env) (f a u : Term) (i j : ℕ) → (spine (app f a) []).head ≡ some (h_rec i j) → RecView e i j (spine (app f a) []).args u → RecRedex e f a u
rec_of e f a u i j q v =
    let is : v.s ≡ a = some_inj (sym v.last ∙ spine_last f a) in
    let full : length (spine a []).args ≡ length v.k.params + (length v.c.fields + v.c.recs) = sym (ap (λ (s : Term). length (spine s []).args) is) ∙ v.full in
    record {
      i = i;
      j = j;
      n = v.n;
      k = v.k;
      c = v.c;
      m = v.m;
      head = sym (spine_head_is f (a ∷ [])) ∙ q;
      at = v.at;
      count = omega (arith, v.len, spine-length f (a ∷ []));
      con_head = sym (spine_head_is a []) ∙ (sym (ap (λ (s : Term). (spine s []).head) is) ∙ v.head);
      con = v.con;
      full = omega (arith, full, spine-length a []);
      case = v.case;
      words = ap (λ (t : Term). put t []) v.is
          ∙ (ap₂ (λ (g : Term) (bs : List Term). put (apps v.m (drop (length v.k.params) bs ++ app_each g (drop (length v.k.params + length v.c.fields) bs))) [])
          (rec_again f a (h_rec i j) (length v.k.params + (1 + length v.k.cons)) q (omega (arith, v.len))) (ap (λ (s : Term). (spine s []).args) is)
          ∙ case_words v.m f (drop (length v.k.params) (spine a []).args) (drop (length v.k.params + length v.c.fields) (spine a []).args) [] (length v.c.fields + (v.c.recs + v.c.recs)) (omega (arith, full, length-drop (length v.k.params) (spine a []).args, length-drop (length v.k.params + length v.c.fields) (spine a []).args)));
    }

pub rec_words : (e : Env) (f a u : Term) (i j : ℕ) → head_of (head_term f) ≡ some (h_rec i j) → contract e f a ≡ some u → RecRedex e f a u
rec_words e f a u i j h s = contract-some e f a s (λ b c is _. none-some (sym (ap (λ z. head_of (head_term z)) is) ∙ h)) λ w. go (iota_view e f a u w)
  where
    go : IotaView e f a u → RecRedex e f a u
    go (by_rec i' j' q v) = rec_of e f a u i' j' q v
    go (by_along i' j' q v) = absurd (let hd : some (h_along i' j') ≡ some (h_rec i j) = sym q ∙ (spine_head_is f (a ∷ []) ∙ h) in let z : ◌≡◌ {A = ℕ} 0 1 = cc in omega arith)
