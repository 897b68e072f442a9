-- Each text has tokens.
use Rattle.std.proofs.Common.{◌≡◌, ℕ, zero, suc, ◌+◌, ◌-◌, ◌≤◌, ◌<◌, Bool, true, false, nat_eq, List, [], ◌∷◌, length, drop, refl, sym, subst, arith, length-drop}
use Rattle.std.specs.Prelude.{if◌then◌else◌, ◌&&◌, ◌||◌, codes}
use Rattle.isa_tokens.specs.declared.token.Token.{Token}
use Rattle.isa_tokens.specs.declared.token.Lexeme.{Lexeme}
use Rattle.isa_tokens.specs.declared.token.Lexeme.TheVariants.{Name, Number, TypeVariable, Colons, Sign, End, Broken}
use Rattle.isa_tokens.specs.declared.token.Fault.TheVariants.{Byte, Deep}
use Rattle.isa_tokens.specs.declared.bracket.Bracket.{Bracket}
use Rattle.isa_tokens.specs.declared.bracket.Bracket.TheVariants.{Comment, Cartouche, Quotes}
use Rattle.isa_tokens.specs.Tokens.{Inside, Closes, Unclosed, Breaks, inside_end, opens, closes, allows, starts, Front, Ends, Skips, Gives, Faults, is_letter, is_digit, is_name_byte, is_blank, is_allowed, closed_front, inside_front, bracket_front, run, run_front, begins_name, plain_front, front_of, line_of, Reads, ends, skips, gives, faults, tokens_within, tokens_of}

-- where the inside of a bracket ends, no more bytes are left than at its place
abbrev IsWithin : List ℕ → Inside → Type 0
IsWithin bs (Closes at) = length at ≤ length bs
IsWithin bs Unclosed = Unit {0}
IsWithin bs (Breaks fault at) = Unit {0}

one_more : (b : ℕ) (bs : List ℕ) (i : Inside) → IsWithin bs i → IsWithin (b ∷ bs) i
one_more b bs (Closes at) h = let k : length at ≤ length bs = h in omega arith
one_more b bs Unclosed h = tt
one_more b bs (Breaks fault at) h = tt

inside_or : (bs : List ℕ) (c : Bool) (x y : Inside) → IsWithin bs x → IsWithin bs y → IsWithin bs (if c then x else y)
inside_or bs true x y h k = h
inside_or bs false x y h k = k

inside_within : (k : Bracket) (p d : ℕ) (bs : List ℕ) → IsWithin bs (inside_end k p d bs)
inside_within k zero d [] = tt
inside_within k (suc p) d [] = tt
inside_within k (suc p) d (b ∷ bs) = one_more b bs (inside_end k p d bs) (inside_within k p d bs)
inside_within k zero d (b ∷ bs) =
    let text : List ℕ = b ∷ bs in
    let closed : Inside = if nat_eq d 1 then Closes text else inside_end k (length (closes k) - 1) (d - 1) bs in
    let opened : Inside = if nat_eq d 500 then Breaks Deep text else inside_end k (length (opens k) - 1) (d + 1) bs in
    let other : Inside = if allows k b then inside_end k 0 d bs else Breaks Byte text in
    inside_or text (starts (closes k) text) closed (if starts (opens k) text then opened else other)
    (inside_or text (nat_eq d 1) (Closes text) (inside_end k (length (closes k) - 1) (d - 1) bs) (let h : length text ≤ length text = omega arith in h) (one_more b bs (inside_end k (length (closes k) - 1) (d - 1) bs) (inside_within k (length (closes k) - 1) (d - 1) bs)))
    (inside_or text (starts (opens k) text) opened other
    (inside_or text (nat_eq d 500) (Breaks Deep text) (inside_end k (length (opens k) - 1) (d + 1) bs) tt (one_more b bs (inside_end k (length (opens k) - 1) (d + 1) bs) (inside_within k (length (opens k) - 1) (d + 1) bs)))
    (inside_or text (allows k b) (inside_end k 0 d bs) (Breaks Byte text) (one_more b bs (inside_end k 0 d bs) (inside_within k 0 d bs)) tt))

-- what stands at the front is passed
abbrev Passes : List ℕ → Front → Type 0
Passes at Ends = Unit {0}
Passes at (Skips rest) = length rest < length at
Passes at (Gives lexeme rest) = length rest < length at
Passes at (Faults fault place) = Unit {0}

front_or : (at : List ℕ) (c : Bool) (x y : Front) → (c ≡ true → Passes at x) → Passes at y → Passes at (if c then x else y)
front_or at true x y h k = h refl
front_or at false x y h k = k

dropped_less : (n : ℕ) (bs : List ℕ) → 0 < n → 0 < length bs → length (drop n bs) < length bs
dropped_less n bs h k = omega (arith, length-drop n bs)

dropped_no_more : (n : ℕ) (bs : List ℕ) → length (drop n bs) ≤ length bs
dropped_no_more n bs = omega (arith, length-drop n bs)

opens_some : (k : Bracket) → 0 < length (opens k)
opens_some Comment = omega arith
opens_some Cartouche = omega arith
opens_some Quotes = omega arith

closed_passes : (k : Bracket) (text inside at : List ℕ) → length inside < length text → length at ≤ length inside → Passes text (closed_front k inside at)
closed_passes Comment text inside at h l = let n : length (drop 2 at) ≤ length at = dropped_no_more 2 at in omega arith
closed_passes Cartouche text inside at h l = let n : length (drop 8 at) ≤ length at = dropped_no_more 8 at in omega arith
closed_passes Quotes text inside at h l = let n : length (drop 1 at) ≤ length at = dropped_no_more 1 at in omega arith

inside_passes : (k : Bracket) (text inside : List ℕ) (i : Inside) → length inside < length text → IsWithin inside i → Passes text (inside_front k text inside i)
inside_passes k text inside (Closes at) h w = closed_passes k text inside at h w
inside_passes k text inside Unclosed h w = tt
inside_passes k text inside (Breaks fault at) h w = tt

bracket_passes : (k : Bracket) (text : List ℕ) → 0 < length text → Passes text (bracket_front k text)
bracket_passes k text h =
    let inside : List ℕ = drop (length (opens k)) text in
    inside_passes k text inside (inside_end k 0 1 inside) (dropped_less (length (opens k)) text (opens_some k) h) (inside_within k 0 1 inside)

run_some : (test : ℕ → Bool) (b : ℕ) (bs : List ℕ) → test b ≡ true → 0 < run test (b ∷ bs)
run_some test b bs h = subst (λ (c : Bool). 0 < (if c then run test bs + 1 else 0)) (sym h) (omega arith)

run_passes : (lexeme : List ℕ → Lexeme) (test : ℕ → Bool) (b : ℕ) (bs : List ℕ) → test b ≡ true → Passes (b ∷ bs) (run_front lexeme (run test (b ∷ bs)) (b ∷ bs))
run_passes lexeme test b bs h = dropped_less (run test (b ∷ bs)) (b ∷ bs) (run_some test b bs h) (omega arith)

or_left : (x y : Bool) → x ≡ true → (x || y) ≡ true
or_left true y h = refl
or_left false y h = absurd cc

letter_named : (b : ℕ) → is_letter b ≡ true → is_name_byte b ≡ true
letter_named b h = or_left (is_letter b) _ h

and_left : (x y : Bool) → (x && y) ≡ true → x ≡ true
and_left true y h = refl
and_left false y h = h

or_last : (x y z w : Bool) → w ≡ true → (x || (y || (z || w))) ≡ true
or_last true y z w h = refl
or_last false true z w h = refl
or_last false false true w h = refl
or_last false false false w h = h

prime_named : (b : ℕ) → nat_eq b 39 ≡ true → is_name_byte b ≡ true
prime_named b h = or_last (is_letter b) (is_digit b) (nat_eq b 95) (nat_eq b 39) h

plain_passes : (b : ℕ) (bs : List ℕ) → Passes (b ∷ bs) (plain_front b bs)
plain_passes b bs =
    let text : List ℕ = b ∷ bs in
    let next : length bs < length text = omega arith in
    front_or text (is_blank b) (Skips bs) _ (λ e. next)
    (front_or text (is_letter b) (run_front Name (run is_name_byte text) text) _ (λ e. run_passes Name is_name_byte b bs (letter_named b e))
    (front_or text (is_digit b) (run_front Number (run is_digit text) text) _ (λ e. run_passes Number is_digit b bs e)
    (front_or text (nat_eq b 39 && begins_name bs) (run_front TypeVariable (run is_name_byte text) text) _ (λ e. run_passes TypeVariable is_name_byte b bs (prime_named b (and_left (nat_eq b 39) (begins_name bs) e)))
    (front_or text (starts (codes "::") text) (Gives Colons (drop 2 text)) _ (λ e. dropped_less 2 text (omega arith) (omega arith))
    (front_or text (is_allowed b) (Gives (Sign b) bs) (Faults Byte text) (λ e. next) tt)))))

passes : (at : List ℕ) → Passes at (front_of at)
passes [] = tt
passes (b ∷ bs) =
    let text : List ℕ = b ∷ bs in
    let some : 0 < length text = omega arith in
    front_or text (starts (opens Comment) text) (bracket_front Comment text) _ (λ e. bracket_passes Comment text some)
    (front_or text (starts (opens Cartouche) text) (bracket_front Cartouche text) _ (λ e. bracket_passes Cartouche text some)
    (front_or text (starts (opens Quotes) text) (bracket_front Quotes text) (plain_front b bs) (λ e. bracket_passes Quotes text some) (plain_passes b bs)))

-- the tokens of a place, by what stands at its front
abbrev cut : ℕ → List ℕ → List ℕ → Front → List Token
cut n text at front = elim front [
  | Ends ↦ record { lexeme = End; line = line_of text at } ∷ []
  | Skips rest ↦ tokens_within n text rest
  | Gives lexeme rest ↦ record { lexeme = lexeme; line = line_of text at } ∷ tokens_within n text rest
  | Faults fault place ↦ record { lexeme = Broken fault; line = line_of text place } ∷ []
]

cut_reads : (n : ℕ) (text at : List ℕ) (front : Front) → front_of at ≡ front → Passes at front → length at < suc n →
    ((rest : List ℕ) → length rest < n → Reads text rest (tokens_within n text rest)) → Reads text at (cut n text at front)
cut_reads n text at Ends e s h go = ends at e
cut_reads n text at (Skips rest) e s h go = let k : length rest < length at = s in skips at rest (tokens_within n text rest) e (go rest (omega arith))
cut_reads n text at (Gives lexeme rest) e s h go = let k : length rest < length at = s in gives at rest lexeme (tokens_within n text rest) e (go rest (omega arith))
cut_reads n text at (Faults fault place) e s h go = faults at place fault e

pub each_reads : (n : ℕ) (text at : List ℕ) → length at < n → Reads text at (tokens_within n text at)
each_reads zero text at h = absurd (omega arith)
each_reads (suc n) text at h = cut_reads n text at (front_of at) refl (passes at) h (λ rest k. each_reads n text rest k)

pub each_is_cut : (text : List ℕ) → Reads text text (tokens_of text)
unfolding tokens_of
each_is_cut text = each_reads (length text + 1) text text (omega arith)
