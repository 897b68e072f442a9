-- Reading words one after another.
use Rattle.std.proofs.lemmas.List.{drop_more}
use Rattle.std.proofs.Common.{length, drop, get_or, ◌≡◌, ℕ, zero, suc, ◌+◌, ◌*◌, ◌-◌, ◌<◌, ◌≤◌, List, [], ◌∷◌, ◌++◌, Bool, true, false, cond, ◌&&◌, Option, Some, None, is_some, refl, sym, ap, subst, ◌∙◌, append_assoc, append-nil, arith, le-leb}
use Rattle.std.specs.Prelude.{nat_le, nat_eq, Result, Ok, Err, IsErrAnd, IfSome, IfNone}
use Rattle.std.proofs.lemmas.Bool.{lt-leb, ne_eqb}
use Rattle.isa_kernel.specs.Forms.{◌>>=◌}
use Rattle.isa_cert.specs.declared.fail.LineFail.{LineFail}
use Rattle.isa_cert.specs.declared.fail.LineFail.TheVariants as fails
use Rattle.isa_cert.specs.Answers.{Reads, ReadsNext}
use Rattle.isa_cert.specs.Lines.{value_from, next_number, next_name, next_pairs, next_names, number, numbers, bounded, any_number, greatest}

-- ---- digits
grows_if : (t : Bool) (n d m : ℕ) (bs : List ℕ) → cond t (value_from (n * 10 + d) bs) None ≡ Some m → (value_from (n * 10 + d) bs ≡ Some m → n * 10 + d ≤ m) → n ≤ m
grows_if true n d m bs e h = let k : n * 10 + d ≤ m = h e in omega arith
grows_if false n d m bs e h = cc

-- more digits make no smaller number
pub grows : (n m : ℕ) (bs : List ℕ) → value_from n bs ≡ Some m → n ≤ m
grows n m [] e = let same : n ≡ m = cc in omega arith
grows n m (b ∷ bs) e = grows_if (nat_le 48 b && nat_le b 57) n (b - 48) m bs e (λ f. grows (n * 10 + (b - 48)) m bs f)

told_if : (t : Bool) (k l : ℕ) (bs : List ℕ) → ((m n : ℕ) → is_some (value_from m bs) ≡ is_some (value_from n bs)) → is_some (cond t (value_from k bs) None) ≡ is_some (cond t (value_from l bs) None)
told_if true k l bs h = h k l
told_if false k l bs h = refl

-- whether all are digits doesn't hang on what stands before
pub told : (m n : ℕ) (bs : List ℕ) → is_some (value_from m bs) ≡ is_some (value_from n bs)
told m n [] = refl
told m n (b ∷ bs) = told_if (nat_le 48 b && nat_le b 57) (m * 10 + (b - 48)) (n * 10 + (b - 48)) bs (λ k l. told k l bs)

-- ---- lists of what is read
-- what was read before stands before what is read
abbrev pub added : {A R : Type 0} → List A → Option (List A × R) → Option (List A × R)
added done None = None
added done (Some r) = Some (done ++ r.0, r.1)

pub added_start : {A R : Type 0} (done : List A) (o : Option (List A × R)) → done ≡ [] → added done o ≡ o
added_start done None h = refl
added_start done (Some r) h = ap (λ xs. Some (xs ++ r.0, r.1)) h

abbrev pub begun : {A : Type 0} → List A → Option (List A) → Option (List A)
begun done None = None
begun done (Some r) = Some (done ++ r)

pub begun_start : {A : Type 0} (done : List A) (o : Option (List A)) → done ≡ [] → begun done o ≡ o
begun_start done None h = refl
begun_start done (Some r) h = ap (λ xs. Some (xs ++ r)) h

abbrev pub more_after : {A R : Type 0} → A → Option (List A × R) → Option (List A × R)
more_after x o = o >>= (λ rest. Some (x ∷ rest.0, rest.1))

added_more : {A R : Type 0} (done : List A) (x : A) (o : Option (List A × R)) → added done (more_after x o) ≡ added (done ++ x ∷ []) o
added_more done x None = refl
added_more done x (Some r) = ap (λ xs. Some (xs, r.1)) (sym (append_assoc done (x ∷ []) r.0))

begun_more : {A : Type 0} (done : List A) (x : A) (o : Option (List A)) → begun done (o >>= (λ rest. Some (x ∷ rest))) ≡ begun (done ++ x ∷ []) o
begun_more done x None = refl
begun_more done x (Some r) = ap (λ xs. Some xs) (sym (append_assoc done (x ∷ []) r))

-- ---- pairs
pairs_here : (k : ℕ) (ws us vs : List (List ℕ)) (a b : ℕ) → next_number ws ≡ Some (a, us) → next_number us ≡ Some (b, vs) → next_pairs (suc k) ws ≡ more_after (a, b) (next_pairs k vs)
pairs_here k ws us vs a b e f = rw (e, f) refl

pairs_none : (k : ℕ) (ws : List (List ℕ)) → next_number ws ≡ None → next_pairs (suc k) ws ≡ None
pairs_none k ws e = rw e refl

pairs_half : (k : ℕ) (ws us : List (List ℕ)) (a : ℕ) → next_number ws ≡ Some (a, us) → next_number us ≡ None → next_pairs (suc k) ws ≡ None
pairs_half k ws us a e f = rw (e, f) refl

pub pairs_more : (whole : Option (List (ℕ × ℕ) × List (List ℕ))) (done : List (ℕ × ℕ)) (left k : ℕ) (ws us vs : List (List ℕ)) (a b : ℕ) → (later : List (ℕ × ℕ)) → left ≡ suc k → whole ≡ added done (next_pairs left ws) → next_number ws ≡ Some (a, us) → next_number us ≡ Some (b, vs) → later ≡ done ++ (a, b) ∷ [] → whole ≡ added later (next_pairs k vs)
pairs_more whole done left k ws us vs a b later n h e f g = h ∙ ap (λ (o : Option (List (ℕ × ℕ) × List (List ℕ))). added done o) (ap (λ m. next_pairs m ws) n ∙ pairs_here k ws us vs a b e f) ∙ added_more done (a, b) (next_pairs k vs) ∙ ap (λ (xs : List (ℕ × ℕ)). added xs (next_pairs k vs)) (sym g)

pub pairs_first : (whole : Option (List (ℕ × ℕ) × List (List ℕ))) (done : List (ℕ × ℕ)) (left k : ℕ) (ws : List (List ℕ)) → left ≡ suc k → whole ≡ added done (next_pairs left ws) → next_number ws ≡ None → whole ≡ None
pairs_first whole done left k ws n h e = h ∙ ap (λ (o : Option (List (ℕ × ℕ) × List (List ℕ))). added done o) (ap (λ m. next_pairs m ws) n ∙ pairs_none k ws e)

pub pairs_second : (whole : Option (List (ℕ × ℕ) × List (List ℕ))) (done : List (ℕ × ℕ)) (left k : ℕ) (ws us : List (List ℕ)) (a : ℕ) → left ≡ suc k → whole ≡ added done (next_pairs left ws) → next_number ws ≡ Some (a, us) → next_number us ≡ None → whole ≡ None
pairs_second whole done left k ws us a n h e f = h ∙ ap (λ (o : Option (List (ℕ × ℕ) × List (List ℕ))). added done o) (ap (λ m. next_pairs m ws) n ∙ pairs_half k ws us a e f)

-- ---- names
names_here : (k : ℕ) (ws us : List (List ℕ)) (x : List ℕ) → next_name ws ≡ Some (x, us) → next_names (suc k) ws ≡ more_after x (next_names k us)
names_here k ws us x e = rw e refl

names_none : (k : ℕ) (ws : List (List ℕ)) → next_name ws ≡ None → next_names (suc k) ws ≡ None
names_none k ws e = rw e refl

pub names_more : (whole : Option (List (List ℕ) × List (List ℕ))) (done : List (List ℕ)) (left k : ℕ) (ws us : List (List ℕ)) (x : List ℕ) → (later : List (List ℕ)) → left ≡ suc k → whole ≡ added done (next_names left ws) → next_name ws ≡ Some (x, us) → later ≡ done ++ x ∷ [] → whole ≡ added later (next_names k us)
names_more whole done left k ws us x later n h e g = h ∙ ap (λ (o : Option (List (List ℕ) × List (List ℕ))). added done o) (ap (λ m. next_names m ws) n ∙ names_here k ws us x e) ∙ added_more done x (next_names k us) ∙ ap (λ (xs : List (List ℕ)). added xs (next_names k us)) (sym g)

pub names_first : (whole : Option (List (List ℕ) × List (List ℕ))) (done : List (List ℕ)) (left k : ℕ) (ws : List (List ℕ)) → left ≡ suc k → whole ≡ added done (next_names left ws) → next_name ws ≡ None → whole ≡ None
names_first whole done left k ws n h e = h ∙ ap (λ (o : Option (List (List ℕ) × List (List ℕ))). added done o) (ap (λ m. next_names m ws) n ∙ names_none k ws e)

-- ---- numbers
pub numbers_more : (whole : Option (List ℕ)) (done : List ℕ) (word : List ℕ) (ws : List (List ℕ)) (n : ℕ) → whole ≡ begun done (numbers (word ∷ ws)) → number word ≡ Some n → whole ≡ begun (done ++ n ∷ []) (numbers ws)
numbers_more whole done word ws n h e = h ∙ ap (λ (o : Option ℕ). begun done (o >>= (λ m. numbers ws >>= (λ rest. Some (m ∷ rest))))) e ∙ begun_more done n (numbers ws)

pub numbers_none : (whole : Option (List ℕ)) (done : List ℕ) (word : List ℕ) (ws : List (List ℕ)) → whole ≡ begun done (numbers (word ∷ ws)) → number word ≡ None → whole ≡ None
numbers_none whole done word ws h e = h ∙ ap (λ (o : Option ℕ). begun done (o >>= (λ m. numbers ws >>= (λ rest. Some (m ∷ rest))))) e

-- ---- refusals
-- a refusal that a `?` passes on
pub passed_on : {A : Type 0} (r : Result A LineFail) (fail : LineFail) (later : List (List ℕ)) (whole : Option (A × List (List ℕ))) → IsErrAnd r (λ e. e ≡ fail) → ReadsNext (Err fail) later whole → ReadsNext r later whole
passed_on {A} (Ok a) fail later whole h k = absurd h
passed_on {A} (Err e) fail later whole h k = subst (λ (f : LineFail). ReadsNext {A = A} (Err f) later whole) (sym h) k

pub passed_on_all : {A : Type 0} (r : Result A LineFail) (fail : LineFail) (whole : Option A) → IsErrAnd r (λ e. e ≡ fail) → Reads (Err fail) whole → Reads r whole
passed_on_all {A} (Ok a) fail whole h k = absurd h
passed_on_all {A} (Err e) fail whole h k = subst (λ (f : LineFail). Reads {A = A} (Err f) whole) (sym h) k

pub first_fails : (fail : LineFail) (whole : Option (List (ℕ × ℕ) × List (List ℕ))) (done : List (ℕ × ℕ)) (left k : ℕ) (ws us vs : List (List ℕ)) → left ≡ suc k → whole ≡ added done (next_pairs left ws) → ReadsNext {A = ℕ} (Err fail) us (next_number ws) → ReadsNext {A = List (ℕ × ℕ)} (Err fail) vs whole
first_fails fails.Form whole done left k ws us vs n h e = pairs_first whole done left k ws n h e
first_fails fails.Typed whole done left k ws us vs n h e = e
first_fails fails.Step whole done left k ws us vs n h e = e
first_fails fails.Memory whole done left k ws us vs n h e = tt

pub second_fails : (fail : LineFail) (whole : Option (List (ℕ × ℕ) × List (List ℕ))) (done : List (ℕ × ℕ)) (left k : ℕ) (ws us xs vs : List (List ℕ)) (a : ℕ) → left ≡ suc k → whole ≡ added done (next_pairs left ws) → next_number ws ≡ Some (a, us) → ReadsNext {A = ℕ} (Err fail) xs (next_number us) → ReadsNext {A = List (ℕ × ℕ)} (Err fail) vs whole
second_fails fails.Form whole done left k ws us xs vs a n h e f = pairs_second whole done left k ws us a n h e f
second_fails fails.Typed whole done left k ws us xs vs a n h e f = f
second_fails fails.Step whole done left k ws us xs vs a n h e f = f
second_fails fails.Memory whole done left k ws us xs vs a n h e f = tt

pub name_fails : (fail : LineFail) (whole : Option (List (List ℕ) × List (List ℕ))) (done : List (List ℕ)) (left k : ℕ) (ws us vs : List (List ℕ)) → left ≡ suc k → whole ≡ added done (next_names left ws) → ReadsNext {A = List ℕ} (Err fail) us (next_name ws) → ReadsNext {A = List (List ℕ)} (Err fail) vs whole
name_fails fails.Form whole done left k ws us vs n h e = names_first whole done left k ws n h e
name_fails fails.Typed whole done left k ws us vs n h e = e
name_fails fails.Step whole done left k ws us vs n h e = e
name_fails fails.Memory whole done left k ws us vs n h e = tt

pub number_fails : (fail : LineFail) (whole : Option (List ℕ)) (done : List ℕ) (word : List ℕ) (before ws : List (List ℕ)) → before ≡ word ∷ ws → whole ≡ begun done (numbers before) → Reads {A = ℕ} (Err fail) (number word) → Reads {A = List ℕ} (Err fail) whole
number_fails fails.Form whole done word before ws b h e = numbers_none whole done word ws (h ∙ ap (λ (ws : List (List ℕ)). begun done (numbers ws)) b) e
number_fails fails.Typed whole done word before ws b h e = e
number_fails fails.Step whole done word before ws b h e = e
number_fails fails.Memory whole done word before ws b h e = tt

pub number_more : (whole : Option (List ℕ)) (done : List ℕ) (word : List ℕ) (before ws : List (List ℕ)) (n : ℕ) (later : List ℕ) → before ≡ word ∷ ws → whole ≡ begun done (numbers before) → number word ≡ Some n → later ≡ done ++ n ∷ [] → whole ≡ begun later (numbers ws)
number_more whole done word before ws n later b h e g = numbers_more whole done word ws n (h ∙ ap (λ (ws : List (List ℕ)). begun done (numbers ws)) b) e ∙ ap (λ (xs : List ℕ). begun xs (numbers ws)) (sym g)

pub numbers_end : (whole : Option (List ℕ)) (done : List ℕ) (before : List (List ℕ)) → before ≡ [] → whole ≡ begun done (numbers before) → whole ≡ Some done
numbers_end whole done before b h = h ∙ ap (λ (ws : List (List ℕ)). begun done (numbers ws)) b ∙ ap (λ xs. Some xs) (append-nil done)

pub pairs_end : (whole : Option (List (ℕ × ℕ) × List (List ℕ))) (done : List (ℕ × ℕ)) (left : ℕ) (ws : List (List ℕ)) → left ≡ 0 → whole ≡ added done (next_pairs left ws) → whole ≡ Some (done, ws)
pairs_end whole done left ws n h = h ∙ ap (λ (m : ℕ). added done (next_pairs m ws)) n ∙ ap (λ (xs : List (ℕ × ℕ)). Some (xs, ws)) (append-nil done)

pub names_end : (whole : Option (List (List ℕ) × List (List ℕ))) (done : List (List ℕ)) (left : ℕ) (ws : List (List ℕ)) → left ≡ 0 → whole ≡ added done (next_names left ws) → whole ≡ Some (done, ws)
names_end whole done left ws n h = h ∙ ap (λ (m : ℕ). added done (next_names m ws)) n ∙ ap (λ (xs : List (List ℕ)). Some (xs, ws)) (append-nil done)

-- ---- a loop over digits
pub digits_step : (digits : List ℕ) (i : ℕ) → i < length digits → (nat_le 48 (get_or digits i 0) && nat_le (get_or digits i 0) 57) ≡ true → is_some (value_from 0 (drop i digits)) ≡ is_some (value_from 0 (drop (i + 1) digits))
digits_step digits i h t =
    ap (λ xs. is_some (value_from 0 xs)) (drop_more digits i 0 h)
    ∙ ap (λ b. is_some (cond b (value_from (0 * 10 + (get_or digits i 0 - 48)) (drop (i + 1) digits)) None)) t
    ∙ told (0 * 10 + (get_or digits i 0 - 48)) 0 (drop (i + 1) digits)

-- ---- a value within a limit
pub value_next : (value : ℕ) (digits rest : List ℕ) (b : ℕ) → digits ≡ b ∷ rest → (nat_le 48 b && nat_le b 57) ≡ true → value_from value digits ≡ value_from (value * 10 + (b - 48)) rest
value_next value digits rest b e t = ap (λ (ds : List ℕ). value_from value ds) e ∙ ap (λ c. cond c (value_from (value * 10 + (b - 48)) rest) None) t

pub value_stop : (value : ℕ) (digits rest : List ℕ) (b : ℕ) → digits ≡ b ∷ rest → (nat_le 48 b && nat_le b 57) ≡ false → value_from value digits ≡ None
value_stop value digits rest b e t = ap (λ (ds : List ℕ). value_from value ds) e ∙ ap (λ c. cond c (value_from (value * 10 + (b - 48)) rest) None) t

pub past_limit : (value limit n : ℕ) (digits rest : List ℕ) (b : ℕ) → digits ≡ b ∷ rest → (nat_le 48 b && nat_le b 57) ≡ true → limit < value * 10 + (b - 48) → value_from value digits ≡ Some n → limit < n
past_limit value limit n digits rest b e t h f = let k : value * 10 + (b - 48) ≤ n = grows (value * 10 + (b - 48)) n rest (sym (value_next value digits rest b e t) ∙ f) in omega arith

pub number_told : (word : List ℕ) (b c : Bool) → any_number word ≡ cond b (value_from 0 word) None → b ≡ true → is_some (value_from 0 word) ≡ c → c ≡ is_some (any_number word)
number_told word b c e t h = sym h ∙ ap (λ (o : Option ℕ). is_some o) (sym (e ∙ ap (λ d. cond d (value_from 0 word) None) t))

pub within_some : (word : List ℕ) (limit : ℕ) (b : Bool) (r : Option ℕ) → any_number word ≡ cond b (value_from 0 word) None → b ≡ true → IfSome r (λ n. (value_from 0 word ≡ Some n) × (0 ≤ limit → n ≤ limit)) → IfSome r (λ n. (any_number word ≡ Some n) × (n ≤ limit))
within_some word limit b None e t h = tt
within_some word limit b (Some n) e t h = (e ∙ ap (λ d. cond d (value_from 0 word) None) t ∙ h.0, h.1 (omega arith))

pub within_none : (word : List ℕ) (limit : ℕ) (b : Bool) (r : Option ℕ) → any_number word ≡ cond b (value_from 0 word) None → b ≡ true → IfNone r ((n : ℕ) → value_from 0 word ≡ Some n → limit < n) → IfNone r ((n : ℕ) → any_number word ≡ Some n → limit < n)
within_none word limit b None e t h = λ n f. h n (sym (e ∙ ap (λ d. cond d (value_from 0 word) None) t) ∙ f)
within_none word limit b (Some n) e t h = tt

pub number_some : (word : List ℕ) (n : ℕ) → any_number word ≡ Some n → n ≤ 4294967295 → number word ≡ Some n
number_some word n e h = ap (λ (o : Option ℕ). o >>= bounded) e ∙ ap (λ b. cond b (Some n) None) (le-leb n 4294967295 h)

bounded_none : (o : Option ℕ) → ((n : ℕ) → o ≡ Some n → 4294967295 < n) → (o >>= bounded) ≡ None
bounded_none None h = refl
bounded_none (Some n) h = ap (λ b. cond b (Some n) None) (lt-leb n 4294967295 (h n refl))

pub number_none : (word : List ℕ) → ((n : ℕ) → any_number word ≡ Some n → 4294967295 < n) → number word ≡ None
number_none word h = bounded_none (any_number word) h

-- ---- numbers by their first digits
pub number_alone : (word rest : List ℕ) (b : ℕ) → word ≡ b ∷ rest → length rest ≡ 0 → any_number word ≡ value_from 0 word
number_alone word [] b e h = ap any_number e ∙ ap (λ (ds : List ℕ). value_from 0 ds) (sym e)
number_alone word (c ∷ rest) b e h = absurd (omega arith)

zero_plain : (b c : ℕ) (rest : List ℕ) → nat_eq b 48 ≡ false → any_number (b ∷ c ∷ rest) ≡ value_from 0 (b ∷ c ∷ rest)
zero_plain b c rest h = ap (λ t. cond t None (value_from 0 (b ∷ c ∷ rest))) h

pub number_plain : (word rest : List ℕ) (b : ℕ) → word ≡ b ∷ rest → (b ≡ 48 → ⊥) → any_number word ≡ value_from 0 word
number_plain word [] b e h = ap any_number e ∙ ap (λ (ds : List ℕ). value_from 0 ds) (sym e)
number_plain word (c ∷ rest) b e h = ap any_number e ∙ zero_plain b c rest (ne_eqb b 48 h) ∙ ap (λ (ds : List ℕ). value_from 0 ds) (sym e)

pub number_zeros : (word rest : List ℕ) (b : ℕ) → word ≡ b ∷ rest → 0 < length rest → b ≡ 48 → any_number word ≡ None
number_zeros word [] b e h k = absurd (omega arith)
number_zeros word (c ∷ rest) b e h k = ap any_number e ∙ ap (λ t. cond t None (value_from 0 (b ∷ c ∷ rest))) (ap (λ d. nat_eq d 48) k)
