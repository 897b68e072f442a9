-- One step inside a bracket.
use Rattle.std.proofs.Common.{◌≡◌, ◌≢◌, ℕ, zero, suc, ◌+◌, ◌-◌, ◌≤◌, Bool, true, false, nat_eq, List, [], ◌∷◌, length, drop, refl, ap, ◌∙◌, sym, subst, arith, ◌<◌}
use Rattle.std.specs.Prelude.{if◌then◌else◌}
use Rattle.isa_tokens.specs.declared.bracket.Bracket.{Bracket}
use Rattle.isa_tokens.specs.declared.bracket.Bracket.TheVariants.{Comment, Cartouche, Quotes}
use Rattle.isa_tokens.specs.declared.token.Fault.TheVariants.{Byte, Deep}
use Rattle.isa_tokens.specs.Private.Scans.{IsBehind}
use Rattle.isa_tokens.specs.Tokens.{Closes, Breaks, inside_end, opens, closes, allows, starts}

-- the bytes of a mark are passed
passed : (k : Bracket) (p d : ℕ) (bs : List ℕ) → p ≤ length bs → inside_end k p d bs ≡ inside_end k 0 d (drop p bs)
passed k zero d [] h = refl
passed k (suc p) d [] h = absurd (omega arith)
passed k zero d (b ∷ bs) h = refl
passed k (suc p) d (b ∷ bs) h = passed k p d bs (omega arith)

step : (k : Bracket) (d b : ℕ) (bs : List ℕ) (x y z : Bool) → starts (closes k) (b ∷ bs) ≡ x → starts (opens k) (b ∷ bs) ≡ y → allows k b ≡ z → inside_end k 0 d (b ∷ bs)
    ≡ (if x then (if nat_eq d 1 then Closes (b ∷ bs) else inside_end k (length (closes k) - 1) (d - 1) bs)
    else (if y then (if nat_eq d 500 then Breaks Deep (b ∷ bs) else inside_end k (length (opens k) - 1) (d + 1) bs)
    else (if z then inside_end k 0 d bs else Breaks Byte (b ∷ bs))))
step k d b bs x y z p q r = λ i. (if p i then (if nat_eq d 1 then Closes (b ∷ bs) else inside_end k (length (closes k) - 1) (d - 1) bs)
    else (if q i then (if nat_eq d 500 then Breaks Deep (b ∷ bs) else inside_end k (length (opens k) - 1) (d + 1) bs)
    else (if r i then inside_end k 0 d bs else Breaks Byte (b ∷ bs))))

less-one : (m : ℕ) → suc m - 1 ≡ m
less-one m = omega arith

dropped : (k : Bracket) (mark : ℕ) (d b : ℕ) (bs : List ℕ) → 1 ≤ mark → mark ≤ length bs + 1 → inside_end k (mark - 1) d bs ≡ inside_end k 0 d (drop mark (b ∷ bs))
dropped k zero d b bs h l = absurd (omega arith)
dropped k (suc m) d b bs h l = ap (λ n. inside_end k n d bs) (less-one m) ∙ passed k m d bs (omega arith)

closes_long : (k : Bracket) → 1 ≤ length (closes k)
closes_long Comment = omega arith
closes_long Cartouche = omega arith
closes_long Quotes = omega arith

opens_long : (k : Bracket) → 1 ≤ length (opens k)
opens_long Comment = omega arith
opens_long Cartouche = omega arith
opens_long Quotes = omega arith

not_one : (d n : ℕ) → d ≢ n → nat_eq d n ≡ false
not_one d n h = grind arith

pub closes_last : (k : Bracket) (rest : List ℕ) → 0 < length rest → starts (closes k) rest ≡ true → inside_end k 0 1 rest ≡ Closes rest
closes_last k [] h p = absurd (omega arith)
closes_last k (b ∷ bs) h p = step k 1 b bs true _ _ p refl refl

pub closes_one : (k : Bracket) (d : ℕ) (rest : List ℕ) → 0 < length rest → length (closes k) ≤ length rest → d ≢ 1 → starts (closes k) rest ≡ true → inside_end k 0 d rest ≡ inside_end k 0 (d - 1) (drop (length (closes k)) rest)
closes_one k d [] h l n p = absurd (omega arith)
closes_one k d (b ∷ bs) h l n p =
    step k d b bs true _ _ p refl refl ∙ ap (λ x. if x then Closes (b ∷ bs) else inside_end k (length (closes k) - 1) (d - 1) bs) (not_one d 1 n)
    ∙ dropped k (length (closes k)) (d - 1) b bs (closes_long k) (omega (arith, l))

pub opens_deep : (k : Bracket) (rest : List ℕ) → 0 < length rest → starts (closes k) rest ≡ false → starts (opens k) rest ≡ true → inside_end k 0 500 rest ≡ Breaks Deep rest
opens_deep k [] h p q = absurd (omega arith)
opens_deep k (b ∷ bs) h p q = step k 500 b bs false true _ p q refl

pub opens_one : (k : Bracket) (d : ℕ) (rest : List ℕ) → 0 < length rest → length (opens k) ≤ length rest → d ≢ 500 → starts (closes k) rest ≡ false → starts (opens k) rest ≡ true → inside_end k 0 d rest ≡ inside_end k 0 (d + 1) (drop (length (opens k)) rest)
opens_one k d [] h l n p q = absurd (omega arith)
opens_one k d (b ∷ bs) h l n p q =
    step k d b bs false true _ p q refl ∙ ap (λ x. if x then Breaks Deep (b ∷ bs) else inside_end k (length (opens k) - 1) (d + 1) bs) (not_one d 500 n)
    ∙ dropped k (length (opens k)) (d + 1) b bs (opens_long k) (omega (arith, l))

pub goes_over : (k : Bracket) (d b : ℕ) (bs : List ℕ) → starts (closes k) (b ∷ bs) ≡ false → starts (opens k) (b ∷ bs) ≡ false → allows k b ≡ true → inside_end k 0 d (b ∷ bs) ≡ inside_end k 0 d bs
goes_over k d b bs p q r = step k d b bs false false true p q r

pub breaks_at : (k : Bracket) (d b : ℕ) (bs : List ℕ) → starts (closes k) (b ∷ bs) ≡ false → starts (opens k) (b ∷ bs) ≡ false → allows k b ≡ false → inside_end k 0 d (b ∷ bs) ≡ Breaks Byte (b ∷ bs)
breaks_at k d b bs p q r = step k d b bs false false false p q r

drop-nothing : (n : ℕ) → drop n (let none : List ℕ = [] in none) ≡ []
drop-nothing zero = refl
drop-nothing (suc n) = refl

drop-more : (m n : ℕ) (xs : List ℕ) → drop n (drop m xs) ≡ drop (m + n) xs
drop-more zero n xs = ap (λ k. drop k xs) (omega arith)
drop-more (suc m) n [] = drop-nothing n ∙ sym (drop-nothing (suc m + n))
drop-more (suc m) n (x ∷ xs) = drop-more m n xs ∙ ap (λ k. drop k (x ∷ xs)) (suc-plus m n)
  where
    suc-plus : (a b : ℕ) → suc (a + b) ≡ suc a + b
    suc-plus a b = omega arith

length-dropped : (n : ℕ) (xs : List ℕ) → n ≤ length xs → length (drop n xs) ≡ length xs - n
length-dropped zero xs h = omega arith
length-dropped (suc n) [] h = absurd (omega arith)
length-dropped (suc n) (x ∷ xs) h = omega (arith, length-dropped n xs (omega arith))

pub all_behind : (text : List ℕ) → IsBehind text text
all_behind text = (omega arith, ap (λ k. drop k text) (let e : 0 ≡ length text - length text = omega arith in e))

-- what is left of the rest stands at the end, too
pub still_behind : (text rest after : List ℕ) (n : ℕ) → IsBehind text rest → n ≤ length rest → after ≡ drop n rest → IsBehind text after
still_behind text rest after n b h e =
    let long : length after ≡ length rest - n = ap (λ l. length l) e ∙ length-dropped n rest h in
    let same : drop n (drop (length text - length rest) text) ≡ drop (length text - length rest + n) text = drop-more (length text - length rest) n text in
    let count : length text - length rest + n ≡ length text - length after = omega (arith, long, b.0, h) in
    (omega (arith, long, b.0), e ∙ ap (λ l. drop n l) b.1 ∙ same ∙ ap (λ k. drop k text) count)

some_left : (mark rest : List ℕ) → 1 ≤ length mark → length mark ≤ length rest → 0 < length rest
some_left mark rest h l = omega (arith, h, l)

pub closes_next : (k : Bracket) (d : ℕ) (rest after mark again : List ℕ) → mark ≡ closes k → again ≡ closes k → starts mark rest ≡ true → length mark ≤ length rest → d ≢ 1 →
    after ≡ drop (length again) rest → inside_end k 0 d rest ≡ inside_end k 0 (d - 1) after
closes_next k d rest after mark again m a s l n e =
    let long : length (closes k) ≤ length rest = subst (λ (x : List ℕ). length x ≤ length rest) m l in
    closes_one k d rest (some_left (closes k) rest (closes_long k) long) long n (subst (λ (x : List ℕ). starts x rest ≡ true) m s)
    ∙ ap (λ (x : List ℕ). inside_end k 0 (d - 1) (drop (length x) rest)) (sym a) ∙ ap (λ x. inside_end k 0 (d - 1) x) (sym e)

pub opens_next : (k : Bracket) (d : ℕ) (rest after mark other again : List ℕ) → mark ≡ opens k → other ≡ closes k → again ≡ opens k → starts other rest ≡ false → starts mark rest ≡ true →
    length mark ≤ length rest → d ≢ 500 → after ≡ drop (length again) rest → inside_end k 0 d rest ≡ inside_end k 0 (d + 1) after
opens_next k d rest after mark other again m o a c s l n e =
    let long : length (opens k) ≤ length rest = subst (λ (x : List ℕ). length x ≤ length rest) m l in
    opens_one k d rest (some_left (opens k) rest (opens_long k) long) long n (subst (λ (x : List ℕ). starts x rest ≡ false) o c) (subst (λ (x : List ℕ). starts x rest ≡ true) m s)
    ∙ ap (λ (x : List ℕ). inside_end k 0 (d + 1) (drop (length x) rest)) (sym a) ∙ ap (λ x. inside_end k 0 (d + 1) x) (sym e)

pub byte_next : (k : Bracket) (d b : ℕ) (rest after mark other : List ℕ) → mark ≡ opens k → other ≡ closes k → starts other rest ≡ false → starts mark rest ≡ false → allows k b ≡ true →
    rest ≡ b ∷ after → inside_end k 0 d rest ≡ inside_end k 0 d after
byte_next k d b rest after mark other m o c s h e =
    ap (λ x. inside_end k 0 d x) e ∙ goes_over k d b after
    (subst (λ (x : List ℕ). starts (closes k) x ≡ false) e (subst (λ (x : List ℕ). starts x rest ≡ false) o c))
    (subst (λ (x : List ℕ). starts (opens k) x ≡ false) e (subst (λ (x : List ℕ). starts x rest ≡ false) m s)) h

pub behind_one : (text rest after : List ℕ) (b : ℕ) → IsBehind text rest → rest ≡ b ∷ after → IsBehind text after
behind_one text rest after b h e = still_behind text rest after 1 h (let n : length rest ≡ length after + 1 = ap (λ (l : List ℕ). length l) e ∙ (let k : length (b ∷ after) ≡ length after + 1 = omega arith in k) in omega (arith, n)) (sym (ap (λ (l : List ℕ). drop 1 l) e))
