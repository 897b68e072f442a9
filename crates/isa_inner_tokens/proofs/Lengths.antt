-- No spelling is longer than what a table keeps, so none that is longer is looked for.
use Rattle.std.proofs.Common.{◌≡◌, ℕ, zero, suc, ◌+◌, ◌-◌, ◌<◌, ◌≤◌, Bool, true, false, cond, List, [], ◌∷◌, ◌++◌, length, take, min, inl, inr, Option, Some, None, refl, sym, ap, subst, ◌∙◌, arith}
use Rattle.std.proofs.lemmas.List.{length-take-le}
use Rattle.std.proofs.lemmas.Bool.{cases_lt}
use Rattle.std.specs.Map.{lookup}
use Rattle.indexmap.specs.IndexMap.{insert_entry}
use Rattle.isa_terms.specs.Equal.{name_eq}
use Rattle.std.specs.Cmp.Lexicographic.{bytes_decides}
use Rattle.isa_inner_tokens.specs.declared.sign.Sign.{Sign}
use Rattle.isa_inner_tokens.specs.Cutting.{spelled, longest_sign, sign_at}
use Rattle.isa_inner_tokens.specs.Lengths.{AreWithin}
use Rattle.isa_inner_tokens.proofs.CuttingSteps.{longest_step}

pub within_more : (m n : ℕ) (ss : List (List ℕ × Sign)) → m ≤ n → AreWithin m ss → AreWithin n ss
within_more m n [] h w = tt
within_more m n (s ∷ ss) h w = (omega (arith, h, w.0), within_more m n ss h w.1)

put_at : (n : ℕ) (x : List ℕ) (s : Sign) (e : List ℕ × Sign) (es : List (List ℕ × Sign)) (b : Bool) → length x ≤ n → length e.0 ≤ n → AreWithin n es → AreWithin n (insert_entry name_eq es x s) → AreWithin n (cond b ((e.0, s) ∷ es) (e ∷ insert_entry name_eq es x s))
put_at n x s e es true h k w v = (k, w)
put_at n x s e es false h k w v = (k, v)

pub within_put : (n : ℕ) (x : List ℕ) (s : Sign) (es : List (List ℕ × Sign)) → length x ≤ n → AreWithin n es → AreWithin n (insert_entry name_eq es x s)
within_put n x s [] h w = (h, tt)
within_put n x s (e ∷ es) h w = put_at n x s e es (name_eq x e.0) h w.0 w.1 (within_put n x s es h w.1)

pub within_first : (n k : ℕ) (es : List (List ℕ × Sign)) → AreWithin n es → AreWithin n (take k es)
within_first n zero es w = tt
within_first n (suc k) [] w = tt
within_first n (suc k) (e ∷ es) w = (w.0, within_first n k es w.1)

-- nothing longer than the spellings is one of them
not_at : (n : ℕ) (x : List ℕ) (e : List ℕ × Sign) (o : Option Sign) (b : Bool) → (b ≡ true → x ≡ e.0) → n < length x → length e.0 ≤ n → o ≡ None → cond b (Some e.1) o ≡ None
not_at n x e o true f h k z = absurd (omega (arith, h, k, ap length (f refl)))
not_at n x e o false f h k z = z

pub none_longer : (n : ℕ) (x : List ℕ) (es : List (List ℕ × Sign)) → n < length x → AreWithin n es → lookup (name_eq x) es ≡ None
none_longer n x [] h w = refl
none_longer n x (e ∷ es) h w = not_at n x e (lookup (name_eq x) es) (name_eq x e.0) (λ t. (bytes_decides x e.0).0 t) h w.0 (none_longer n x es h w.1)

-- the longest sign is sought among the spellings' lengths
from_longest : (n k : ℕ) (es : List (List ℕ × Sign)) (text : List ℕ) → AreWithin n es → n + k ≤ length text → longest_sign es (n + k) text ≡ longest_sign es n text
from_longest n zero es text w h = let e : n + 0 ≡ n = omega arith in ap (λ (i : ℕ). longest_sign es i text) e
from_longest n (suc k) es text w h =
    let e : n + suc k ≡ suc (n + k) = omega arith in
    let p : suc (n + k) - 1 ≡ n + k = omega arith in
    let l : length (take (suc (n + k)) text) ≡ suc (n + k) = length-take-le (suc (n + k)) text (omega (arith, h)) in
    let none : spelled es (take (suc (n + k)) text) ≡ None = none_longer n (take (suc (n + k)) text) es (omega (arith, l)) w in
    ap (λ (i : ℕ). longest_sign es i text) e
    ∙ longest_step es (suc (n + k)) text (omega arith) none
    ∙ ap (λ (i : ℕ). longest_sign es i text) p
    ∙ from_longest n k es text w (omega (arith, h))

at_end : (n len : ℕ) → len ≤ n → min n len ≡ len
at_end n len h = grind arith

at_start : (n len : ℕ) → n ≤ len → min n len ≡ n
at_start n len h = grind arith

pub sought : (n : ℕ) (es : List (List ℕ × Sign)) (text : List ℕ) → AreWithin n es → sign_at es text ≡ longest_sign es (min n (length text)) text
sought n es text w = elim (cases_lt n (length text)) [
  | inl h ↦
      let e : n + (length text - n) ≡ length text = omega (arith, h) in
      ap (λ (i : ℕ). longest_sign es i text) (sym e)
      ∙ from_longest n (length text - n) es text w (omega (arith, e))
      ∙ ap (λ (i : ℕ). longest_sign es i text) (sym (at_start n (length text) (omega (arith, h))))
  | inr h ↦ ap (λ (i : ℕ). longest_sign es i text) (sym (at_end n (length text) h))
]
