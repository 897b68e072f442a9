-- Steps of the cutter.
use Rattle.std.proofs.Common.{◌≡◌, ℕ, zero, suc, ◌+◌, ◌-◌, ◌<◌, ◌≤◌, Bool, true, false, List, [], ◌∷◌, ◌++◌, length, take, drop, Option, Some, None, refl, sym, ap, subst, ◌∙◌, arith, append_assoc, append-nil, nat_eq}
use Rattle.std.specs.Prelude.{option_map, if◌then◌else◌}
use Rattle.std.proofs.lemmas.List.{take_all, length-drop}
use Rattle.std.specs.Option.{option_or}
use Rattle.isa_inner_tokens.specs.declared.sign.Sign.{Sign}
use Rattle.isa_inner_tokens.specs.declared.sign.Signs.{Signs}
use Rattle.isa_inner_tokens.specs.declared.cutting.Word.{Word}
use Rattle.isa_inner_tokens.specs.declared.cutting.Word.TheVariants as word
use Rattle.isa_inner_tokens.specs.Bytes.{is_letter, is_blank, is_name_byte, run_length, name_length}
use Rattle.isa_inner_tokens.specs.Cutting.{spelled, longest_sign, first_word, to_close, begins_blank, symbol_length, Cuts, Nothing, Blank, First, Symbol}

run_of : (b : Bool) (n m : ℕ) → n ≤ m → (if b then n + 1 else 0) ≤ m + 1
run_of true n m h = omega (arith, h)
run_of false n m h = omega arith

pub run_within : (text : List ℕ) → run_length text ≤ length text
run_within [] = omega arith
run_within (b ∷ bs) = let h : run_length (b ∷ bs) ≤ length bs + 1 = run_of (is_name_byte b) (run_length bs) (length bs) (run_within bs) in omega (arith, h)

pub longest_step : (signs : Signs) (n : ℕ) (text : List ℕ) → 0 < n → spelled signs (take n text) ≡ None → longest_sign signs n text ≡ longest_sign signs (n - 1) text
longest_step signs zero text h e = absurd (omega (arith, h))
longest_step signs (suc n) text h e =
    let k : suc n - 1 ≡ n = omega arith in
    ap (λ (o : Option Sign). option_or (option_map (λ s. (suc n, s)) o) (longest_sign signs n text)) e ∙ ap (λ (i : ℕ). longest_sign signs i text) (sym k)

pub longest_found : (signs : Signs) (n : ℕ) (text : List ℕ) (s : Sign) → 0 < n → spelled signs (take n text) ≡ Some s → longest_sign signs n text ≡ Some (n, s)
longest_found signs zero text s h e = absurd (omega (arith, h))
longest_found signs (suc n) text s h e = ap (λ (o : Option Sign). option_or (option_map (λ s. (suc n, s)) o) (longest_sign signs n text)) e

further : (o : Option ℕ) (count : ℕ) → option_map (λ n. n + count) (option_map (λ n. n + 1) o) ≡ option_map (λ n. n + (count + 1)) o
further None count = refl
further (Some n) count = let e : n + 1 + count ≡ n + (count + 1) = omega arith in ap Some e

pub close_step : (b : ℕ) (bs text : List ℕ) (count : ℕ) → to_close text ≡ option_map (λ n. n + count) (to_close (b ∷ bs)) → to_close (b ∷ bs) ≡ option_map (λ n. n + 1) (to_close bs) → to_close text ≡ option_map (λ n. n + (count + 1)) (to_close bs)
close_step b bs text count e f = e ∙ ap (option_map (λ n. n + count)) f ∙ further (to_close bs) count

-- what is cut of the rest is cut of the whole
pub blank_step : (signs : Signs) (b : ℕ) (rest after text : List ℕ) (done : List Word) → ((ws : List Word) → Cuts signs rest ws → Cuts signs text (done ++ ws)) → rest ≡ b ∷ after → is_blank b ≡ true → (ws : List Word) → Cuts signs after ws → Cuts signs text (done ++ ws)
blank_step signs b rest after text done h e f ws c = h ws (subst (λ (l : List ℕ). Cuts signs l ws) (sym e) (Blank b after ws f c))

pub word_step : (signs : Signs) (n : ℕ) (w : Word) (rest text : List ℕ) (done : List Word) → ((ws : List Word) → Cuts signs rest ws → Cuts signs text (done ++ ws)) → begins_blank rest ≡ false → first_word signs rest ≡ Some (n, w) → (ws : List Word) → Cuts signs (drop n rest) ws → Cuts signs text ((done ++ w ∷ []) ++ ws)
word_step signs n w rest text done h b e ws c = rw (append_assoc done (w ∷ []) ws) (h (w ∷ ws) (First rest n w ws b e c))

not_close : (b : ℕ) → (b ≡ 62 → ⊥) → nat_eq b 62 ≡ false
not_close b h = grind arith

pub close_not : (b : ℕ) (bs : List ℕ) → (b ≡ 62 → ⊥) → to_close (b ∷ bs) ≡ option_map (λ n. n + 1) (to_close bs)
close_not b bs h = ap (λ (x : Bool). if x then Some 1 else option_map (λ n. n + 1) (to_close bs)) (not_close b h)

pub close_rest : (text rest bs : List ℕ) (b count : ℕ) → to_close text ≡ option_map (λ n. n + count) (to_close rest) → rest ≡ b ∷ bs → (b ≡ 62 → ⊥) → to_close text ≡ option_map (λ n. n + (count + 1)) (to_close bs)
close_rest text rest bs b count e f h = close_step b bs text count (e ∙ ap (λ (l : List ℕ). option_map (λ n. n + count) (to_close l)) f) (close_not b bs h)

-- a slice to the end
pub to_end : (n : ℕ) (l : List ℕ) → take (length l - n) (drop n l) ≡ drop n l
to_end n l = let e : length (drop n l) ≡ length l - n = length-drop n l in take_all (length l - n) (drop n l) (omega (arith, e))

not_blank : (rest after : List ℕ) (b : ℕ) → rest ≡ b ∷ after → is_blank b ≡ false → begins_blank rest ≡ false
not_blank rest after b e f = ap begins_blank e ∙ f

pub next_word : (signs : Signs) (n : ℕ) (w : Word) (b : ℕ) (rest after text : List ℕ) (done more : List Word) (found : Option (ℕ × Word)) → ((ws : List Word) → Cuts signs rest ws → Cuts signs text (done ++ ws)) → rest ≡ b ∷ after → is_blank b ≡ false → found ≡ first_word signs rest → found ≡ Some (n, w) → more ≡ done ++ w ∷ [] → (ws : List Word) → Cuts signs (take (length rest - n) (drop n rest)) ws → Cuts signs text (more ++ ws)
next_word signs n w b rest after text done more found h e f g k m ws c =
    subst (λ (l : List Word). Cuts signs text (l ++ ws)) (sym m)
    (word_step signs n w rest text done h (not_blank rest after b e f) (sym g ∙ k) ws (subst (λ (l : List ℕ). Cuts signs l ws) (to_end n rest) c))

pub symbol_end : (signs : Signs) (b : ℕ) (rest after text : List ℕ) (done more : List Word) (sym_text : List ℕ) (found : Option (ℕ × Word)) (n : ℕ) → ((ws : List Word) → Cuts signs rest ws → Cuts signs text (done ++ ws)) → rest ≡ b ∷ after → is_blank b ≡ false → found ≡ first_word signs rest → found ≡ None → n ≡ symbol_length rest → sym_text ≡ take n rest → more ≡ done ++ word.Unknown sym_text ∷ [] → Cuts signs text more
symbol_end signs b rest after text done more sym_text found n h e f g k l s m =
    let spelled_so : sym_text ≡ take (symbol_length (b ∷ after)) (b ∷ after) = s ∙ ap (λ (i : ℕ). take i rest) l ∙ ap (λ (r : List ℕ). take (symbol_length r) r) e in
    let none : first_word signs (b ∷ after) ≡ None = ap (first_word signs) (sym e) ∙ sym g ∙ k in
    subst (λ (u : List Word). Cuts signs text u) (sym m)
    (h (word.Unknown sym_text ∷ [])
    (subst (λ (r : List ℕ). Cuts signs r (word.Unknown sym_text ∷ [])) (sym e)
    (subst (λ (x : List ℕ). Cuts signs (b ∷ after) (word.Unknown x ∷ [])) (sym spelled_so) (Symbol b after f none))))

nil_of : (rest : List ℕ) → length rest ≡ 0 → rest ≡ []
nil_of [] e = refl
nil_of (b ∷ bs) e = absurd (omega (arith, e))

pub end_of : (signs : Signs) (rest text : List ℕ) (done : List Word) → ((ws : List Word) → Cuts signs rest ws → Cuts signs text (done ++ ws)) → length rest ≡ 0 → Cuts signs text done
end_of signs rest text done h e =
    subst (λ (l : List Word). Cuts signs text l) (append-nil done) (h [] (subst (λ (r : List ℕ). Cuts signs r []) (sym (nil_of rest e)) Nothing))
