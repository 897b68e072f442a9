-- Tokens, words and texts have one outcome at most.
use Rattle.std.proofs.Common.{◌≡◌, refl, sym, subst, ℕ, Bool, true, false, List, [], ◌∷◌, Option, Some, None, ap, ◌∙◌, drop, take, ◌⊎◌, inl, inr, min, arith}
use Rattle.isa_terms.specs.Types.{Ty}
use Rattle.isa_inner_tokens.specs.declared.sign.Signs.{Signs}
use Rattle.isa_inner_tokens.specs.declared.cutting.Word.{Word}
use Rattle.isa_inner_tokens.specs.declared.cutting.Word.TheVariants as word
use Rattle.isa_inner_tokens.specs.declared.sign.Sign.{Sign}
use Rattle.isa_inner_tokens.specs.Bytes.{is_blank}
use Rattle.isa_inner_tokens.specs.Cutting.{Cuts, Nothing, Blank, First, Symbol, first_word, begins_blank, longer, longest_sign, symbol_length}
use Rattle.isa_inner_types.specs.declared.token.TypeRefusal.{TypeRefusal}
use Rattle.isa_inner_types.specs.declared.token.TextToken.{TextToken}
use Rattle.isa_inner_types.specs.TypeReading as types
use Rattle.isa_inner_types.specs.TypeGrammar.{OneTypeOutcome}
use Rattle.isa_inner_text.specs.Signatures.{SignatureSeen}
use Rattle.isa_inner_text.specs.Signature.{tokens_of}
use Rattle.isa_inner_text.specs.Texts.{OneReading, Gives}
use Rattle.isa_inner_text.specs.Reading.{Outcome, Refused, Step, Ends, Goes, Inside, InType, step, Runs, ends, goes, inside, typed, untyped, type_why, text, OneOutcome}
use Rattle.isa_inner_types.proofs.TypeOutcomes.{one_outcome as one_type}

-- what comes of a type and then of the step behind it
abbrev pub Behind : (sig : SignatureSeen) → (Ty → ℕ → List TextToken → Step) → types.Outcome → Outcome → Type 0
Behind sig after (types.Read T h rest) u = Runs sig (after T h rest) u
Behind sig after (types.Refused w at) u = u ≡ Refused (type_why w at)

abbrev pub Inverted : (sig : SignatureSeen) → Step → Outcome → Type 0
Inverted sig (Ends o) u = u ≡ o
Inverted sig (Goes p ts) u = Runs sig (step sig p ts) u
Inverted sig (Inside p ts after) u = (part : Outcome) × Runs sig (step sig p ts) part × Runs sig (after part) u
Inverted sig (InType d ts after) u = (t : types.Outcome) × types.Runs (types.step (types.Whole d) ts) t × Behind sig after t u

pub invert : (sig : SignatureSeen) (s : Step) (u : Outcome) → Runs sig s u → Inverted sig s u
invert sig _ _ (ends o) = refl
invert sig _ _ (goes p ts o r) = r
invert sig _ _ (inside p ts after part o a r) = (part, a, r)
invert sig _ _ (typed d ts after T h rest o a r) = (types.Read T h rest, a, r)
invert sig _ _ (untyped d ts after w at a) = (types.Refused w at, a, refl)

one : (sig : SignatureSeen) (s : Step) (o : Outcome) → Runs sig s o → (u : Outcome) → Runs sig s u → o ≡ u
one sig _ _ (ends o) u r = sym (invert sig (Ends o) u r)
one sig _ _ (goes p ts o r) u s = one sig _ _ r u (invert sig (Goes p ts) u s)
one sig _ _ (inside p ts after part o a r) u s =
    let i = invert sig (Inside p ts after) u s in
    one sig _ _ r u (subst (λ (x : Outcome). Runs sig (after x) u) (sym (one sig _ _ a i.0 i.1)) i.2)
one sig _ _ (typed d ts after T h rest o a r) u s =
    let i = invert sig (InType d ts after) u s in
    one sig _ _ r u (subst (λ (x : types.Outcome). Behind sig after x u) (sym (one_type (types.step (types.Whole d) ts) (types.Read T h rest) i.0 a i.1)) i.2)
one sig _ _ (untyped d ts after w at a) u s =
    let i = invert sig (InType d ts after) u s in
    sym (subst (λ (x : types.Outcome). Behind sig after x u) (sym (one_type (types.step (types.Whole d) ts) (types.Refused w at) i.0 a i.1)) i.2)

pub one_outcome : OneOutcome
one_outcome sig s o u a b = one sig s o a u b

-- a text is cut in one way
same_first : {A : Type 0} (x y : A) (o : Option A) → o ≡ Some x → o ≡ Some y → x ≡ y
same_first x y o e f = cc

no_first : {A : Type 0} (x : A) (o : Option A) → o ≡ Some x → o ≡ None → ⊥
no_first x o e f = cc

nothing_first : (signs : Signs) → first_word signs [] ≡ None
nothing_first signs = refl

-- what a cutting begins with
abbrev pub Invert : Signs → List ℕ → List Word → Type 0
Invert signs text words =
    ((text ≡ []) × (words ≡ []))
    ⊎ (((b : ℕ) × (rest : List ℕ) × (text ≡ b ∷ rest) × (is_blank b ≡ true) × Cuts signs rest words)
    ⊎ (((n : ℕ) × (w : Word) × (ws : List Word) × (begins_blank text ≡ false) × (first_word signs text ≡ Some (n, w)) × (words ≡ w ∷ ws) × Cuts signs (drop n text) ws)
    ⊎ ((b : ℕ) × (rest : List ℕ) × (text ≡ b ∷ rest) × (is_blank b ≡ false) × (first_word signs text ≡ None) × (words ≡ word.Unknown (take (symbol_length text) text) ∷ []))))

invert_cut : (signs : Signs) (text : List ℕ) (words : List Word) → Cuts signs text words → Invert signs text words
invert_cut signs _ _ Nothing = inl (refl, refl)
invert_cut signs _ _ (Blank b text words e r) = inr (inl (b, text, refl, e, r))
invert_cut signs _ _ (First text n w words b e r) = inr (inr (inl (n, w, words, b, e, refl, r)))
invert_cut signs _ _ (Symbol b text e f) = inr (inr (inr (b, text, refl, e, f, refl)))

cut_nothing : (signs : Signs) (words : List Word) → Invert signs [] words → [] ≡ words
cut_nothing signs words (inl i) = sym i.1
cut_nothing signs words (inr (inl i)) = absurd cc
cut_nothing signs words (inr (inr (inl i))) = absurd (no_first (i.0, i.1) (first_word signs []) i.4 (nothing_first signs))
cut_nothing signs words (inr (inr (inr i))) = absurd cc

cut_blank : (signs : Signs) (b : ℕ) (text : List ℕ) (words : List Word) → is_blank b ≡ true → Invert signs (b ∷ text) words → Cuts signs text words
cut_blank signs b text words e (inl i) = absurd cc
cut_blank signs b text words e (inr (inl i)) = subst (λ (t : List ℕ). Cuts signs t words) (cc) i.4
cut_blank signs b text words e (inr (inr (inl i))) = absurd cc
cut_blank signs b text words e (inr (inr (inr i))) = absurd cc

cut_first : (signs : Signs) (text : List ℕ) (n : ℕ) (w : Word) (words : List Word) → begins_blank text ≡ false → first_word signs text ≡ Some (n, w) → Invert signs text words → (ws : List Word) × (words ≡ w ∷ ws) × Cuts signs (drop n text) ws
cut_first signs text n w words b e (inl i) = absurd (no_first (n, w) (first_word signs text) e (subst (λ (t : List ℕ). first_word signs t ≡ None) (sym i.0) (nothing_first signs)))
cut_first signs text n w words b e (inr (inl i)) = absurd cc
cut_first signs text n w words b e (inr (inr (inl i))) =
    let p = same_first (i.0, i.1) (n, w) (first_word signs text) i.4 e in
    (i.2, i.5 ∙ ap (λ (q : ℕ × Word). q.1 ∷ i.2) p, subst (λ (q : ℕ × Word). Cuts signs (drop q.0 text) i.2) p i.6)
cut_first signs text n w words b e (inr (inr (inr i))) = absurd (no_first (n, w) (first_word signs text) e i.4)

cut_symbol : (signs : Signs) (b : ℕ) (text : List ℕ) (words : List Word) → is_blank b ≡ false → first_word signs (b ∷ text) ≡ None → Invert signs (b ∷ text) words → word.Unknown (take (symbol_length (b ∷ text)) (b ∷ text)) ∷ [] ≡ words
cut_symbol signs b text words e f (inl i) = absurd cc
cut_symbol signs b text words e f (inr (inl i)) = absurd cc
cut_symbol signs b text words e f (inr (inr (inl i))) = absurd (no_first (i.0, i.1) (first_word signs (b ∷ text)) i.4 f)
cut_symbol signs b text words e f (inr (inr (inr i))) = sym i.5

pub cut_once : (signs : Signs) (text : List ℕ) (words : List Word) → Cuts signs text words → (others : List Word) → Cuts signs text others → words ≡ others
cut_once signs _ _ Nothing others s = cut_nothing signs others (invert_cut signs [] others s)
cut_once signs _ _ (Blank b text ws e r) others s = cut_once signs text ws r others (cut_blank signs b text others e (invert_cut signs (b ∷ text) others s))
cut_once signs _ _ (First text n w ws b e r) others s =
    let i = cut_first signs text n w others b e (invert_cut signs text others s) in
    ap (λ (x : List Word). w ∷ x) (cut_once signs (drop n text) ws r i.0 i.2) ∙ sym i.1
cut_once signs _ _ (Symbol b text e f) others s = cut_symbol signs b text others e f (invert_cut signs (b ∷ text) others s)

pub one_reading : OneReading
one_reading sig schematic bytes o u a b =
    one_outcome sig (text sig (tokens_of sig schematic a.0)) o u a.2
    (subst (λ (ws : List Word). Runs sig (text sig (tokens_of sig schematic ws)) u) (sym (cut_once sig.signs bytes a.0 a.1 b.0 b.1)) b.2)
