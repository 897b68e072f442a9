-- Matches of lists of patterns: one instance serves all.
use Rattle.std.proofs.Common.{◌≡◌, ℕ, List, [], ◌∷◌, Bool, true, false, ◌||◌, refl, sym, ap, subst, ◌∙◌, ◌⊎◌, inl, inr, Option, Some, None, is_some, option_map}
use Rattle.isa_terms.specs.Types.{Ty}
use Rattle.isa_terms.specs.Terms.{Tm, bare}
use Rattle.isa_terms.specs.Typing.{HasType}
use Rattle.isa_terms.specs.Normal.{IsNormal}
use Rattle.isa_terms.specs.declared.inst.TermEntry.{TermEntry}
use Rattle.isa_terms.specs.Norm.{norm}
use Rattle.isa_terms.specs.Instance.{Instance, find_type, find_term, inst_ty, inst_tm, instance_of}
use Rattle.isa_terms.specs.Typed.{Typed}
use Rattle.isa_terms.specs.Instances.{IsKept}
use Rattle.isa_terms.proofs.Typed.{typed_of_type}
use Rattle.isa_terms.proofs.Conv.{right_typed, norm_conv}
use Rattle.isa_terms.proofs.NormalForms.{norm_same}
use Rattle.isa_terms.proofs.Instances.{inst_typed}
use Rattle.isa_terms.proofs.Heads.{one_type}
use Rattle.isa_terms.proofs.Unique.{conv_norm}
use Rattle.isa_unify.specs.TypeUnification.{ty_has}
use Rattle.isa_unify.specs.Matching.{matched, ty_matched, has_unknown, has_type_unknown, have_unknown, have_type_unknown, match_from, all_from, match_all_of, AreAsked, AreAskedFrom, MakesAll, AreMatched, AllMatch, DoesAs, ◌>>=◌}
use Rattle.isa_unify.proofs.Tests.{or_left, or_right, same_test, some_same}
use Rattle.isa_unify.proofs.TypeMatches.{TypesWithin, types_within_self, types_within_more, covers_more, TyFinds, ty_finds, ty_completes}
use Rattle.isa_unify.proofs.PatternMatches.{TermsWithin, terms_within_self, terms_within_more, terms_cover_more, AllGood, good_more, good_kept, good_normal, Finds, Asked, pattern_more, sound}
use Rattle.isa_unify.proofs.Flexible.{IsPattern}
use Rattle.isa_unify.proofs.PatternComplete.{Agrees, Covers, completes}
use Rattle.isa_unify.proofs.MatchAnswers.{pattern_parts, pattern_parts_from, closed_type_has, steps_from, none_of}

-- what the proofs ask of a pattern and a term, where matching goes on from s
pub record IsShown (s : Instance) (p t : Tm) : Type 0 where
  pub parts : IsPattern s p
  pub pattern_type : Ty
  pub pattern_typed : HasType p pattern_type
  pub term_type : Ty
  pub term_typed : HasType t term_type
  pub normal : IsNormal t

abbrev pub AreShown : Instance → List Tm → List Tm → Type 0
AreShown s [] [] = Unit {0}
AreShown s (p ∷ ps) (t ∷ ts) = IsShown s p t × AreShown s ps ts
AreShown s _ _ = Unit {0}

pub shown_asked : (s : Instance) (ps ts : List Tm) → AreAsked ps ts → AreShown s ps ts
shown_asked s [] [] k = tt
shown_asked s (p ∷ ps) (t ∷ ts) k =
    (record { parts = pattern_parts s p k.0.pattern_normal k.0.pattern; pattern_type = k.0.pattern_type; pattern_typed = k.0.pattern_typed; term_type = k.0.term_type; term_typed = k.0.term_typed; normal = k.0.normal }, shown_asked s ps ts k.1)
shown_asked s [] (t ∷ ts) k = tt
shown_asked s (p ∷ ps) [] k = tt

pub shown_from : (s : Instance) (ps ts : List Tm) → AreAskedFrom s ps ts → AreShown s ps ts
shown_from s [] [] k = tt
shown_from s (p ∷ ps) (t ∷ ts) k =
    (record { parts = pattern_parts_from s p k.0.pattern_normal k.0.pattern; pattern_type = k.0.pattern_type; pattern_typed = k.0.pattern_typed; term_type = k.0.term_type; term_typed = k.0.term_typed; normal = k.0.normal }, shown_from s ps ts k.1)
shown_from s [] (t ∷ ts) k = tt
shown_from s (p ∷ ps) [] k = tt

shown_more : (s r : Instance) → TermsWithin s.terms r.terms → (ps ts : List Tm) → AreShown s ps ts → AreShown r ps ts
shown_more s r w [] [] k = tt
shown_more s r w (p ∷ ps) (t ∷ ts) k =
    (record { parts = pattern_more s r w p k.0.parts; pattern_type = k.0.pattern_type; pattern_typed = k.0.pattern_typed; term_type = k.0.term_type; term_typed = k.0.term_typed; normal = k.0.normal }, shown_more s r w ps ts k.1)
shown_more s r w [] (t ∷ ts) k = tt
shown_more s r w (p ∷ ps) [] k = tt

-- what matching adds to an instance
pub record Adds (s : Instance) (ps ts : List Tm) (r : Instance) : Type 0 where
  pub types_within : TypesWithin s.types r.types
  pub terms_within : TermsWithin s.terms r.terms
  pub gives : (q : Instance) → TypesWithin r.types q.types → TermsWithin r.terms q.terms → MakesAll q ps ts
  pub types : (x : List ℕ) (i : ℕ) → have_type_unknown x i ps ≡ true → is_some (find_type x i r.types) ≡ true
  pub terms : (x : List ℕ) (i : ℕ) (T : Ty) → have_unknown x i T ps ≡ true → is_some (find_term x i T r.terms) ≡ true
  pub only_types : (x : List ℕ) (i : ℕ) → is_some (find_type x i r.types) ≡ true → (is_some (find_type x i s.types) ≡ true) ⊎ (have_type_unknown x i ps ≡ true)
  pub only_terms : (x : List ℕ) (i : ℕ) (T : Ty) → is_some (find_term x i T r.terms) ≡ true → (is_some (find_term x i T s.terms) ≡ true) ⊎ (have_unknown x i T ps ≡ true)
  pub good : AllGood s.types s.terms → AllGood r.types r.terms

nothing_added : (s : Instance) → Adds s [] [] s
nothing_added s = record {
  types_within = types_within_self s.types;
  terms_within = terms_within_self s.terms;
  gives = λ q w v. tt;
  types = λ x i h. absurd (cc);
  terms = λ x i T h. absurd (cc);
  only_types = λ x i h. inl h;
  only_terms = λ x i T h. inl h;
  good = λ g. g;
}

split_or : (a b : Bool) {c : Bool} → (a ≡ true → c ≡ true) → (b ≡ true → c ≡ true) → (a || b) ≡ true → c ≡ true
split_or true b f g h = f refl
split_or false b f g h = g h

-- the first pattern's types and places, and then the others
same_terms : (fs gs : List TermEntry) → gs ≡ fs → TermsWithin fs gs
same_terms fs gs e = subst (TermsWithin fs) (sym e) (terms_within_self fs)

-- what is asked of the first pattern after the types were matched
typed_asked : (s q : Instance) (p t : Tm) (A B : Ty) → AllGood s.types s.terms → IsPattern s p → TyFinds s A B q → Asked q p
typed_asked s q p t A B g k y = (subst (AllGood q.types) (sym y.terms) (good_more s.terms y.within g), pattern_more s q (same_terms s.terms q.terms y.terms) p k)

front_finds : (s q z : Instance) (p t : Tm) → AllGood s.types s.terms → (k : IsShown s p t) → ty_matched s k.pattern_type k.term_type ≡ Some q → matched [] q p t ≡ Some z → Finds [] q p t k.pattern_type k.term_type z
front_finds s q z p t g k f h =
    let dp = typed_of_type [] p k.pattern_type k.pattern_typed in
    let dt = typed_of_type [] t k.term_type k.term_typed in
    let y = ty_finds k.pattern_type k.term_type s q f in
    sound p t [] [] k.pattern_type k.term_type q z (typed_asked s q p t k.pattern_type k.term_type g k.parts y) k.normal dp dt tt (inr y.fit) h

-- and after the pattern was
front_good : (s q z : Instance) (p t : Tm) → AllGood s.types s.terms → (k : IsShown s p t) → ty_matched s k.pattern_type k.term_type ≡ Some q → matched [] q p t ≡ Some z → AllGood z.types z.terms × TermsWithin s.terms z.terms
front_good s q z p t g k f h =
    let y = ty_finds k.pattern_type k.term_type s q f in
    let u = front_finds s q z p t g k f h in
    (u.good (subst (AllGood q.types) (sym y.terms) (good_more s.terms y.within g)), terms_within_more (same_terms s.terms q.terms y.terms) u.terms_within)

front_added : (s q z r : Instance) (p t : Tm) (ps ts : List Tm) → AllGood s.types s.terms → (k : IsShown s p t) → ty_matched s k.pattern_type k.term_type ≡ Some q → matched [] q p t ≡ Some z → Adds z ps ts r → Adds s (p ∷ ps) (t ∷ ts) r
front_added s q z r p t ps ts g k f h a =
    let dp = typed_of_type [] p k.pattern_type k.pattern_typed in
    let dt = typed_of_type [] t k.term_type k.term_typed in
    let y = ty_finds k.pattern_type k.term_type s q f in
    let u = front_finds s q z p t g k f h in
    record {
      types_within = types_within_more y.within (types_within_more u.types_within a.types_within);
      terms_within = terms_within_more (subst (λ fs. TermsWithin fs z.terms) y.terms u.terms_within) a.terms_within;
      gives = λ i w v. (conv_norm (u.gives i (types_within_more a.types_within w) (terms_within_more a.terms_within v)) ∙ ap bare (norm_same t k.normal), a.gives i w v);
      types = λ x i e. split_or (has_type_unknown x i p) (have_type_unknown x i ps) (λ d. covers_more a.types_within x i (u.types x i d)) (a.types x i) e;
      terms = λ x i T e. split_or (has_unknown x i T p) (have_unknown x i T ps) (λ d. terms_cover_more a.terms_within x i T (u.terms x i T d)) (a.terms x i T) e;
      only_types = λ x i e. at_types x i dp (a.only_types x i e) (u.only_types x i) (y.only x i);
      only_terms = λ x i T e. at_terms x i T y.terms (a.only_terms x i T e) (u.only_terms x i T);
      good = λ g. a.good (u.good (subst (AllGood q.types) (sym y.terms) (good_more s.terms y.within g)));
    }
  where
    at_start : (x : List ℕ) (i : ℕ) → Typed [] p k.pattern_type → (is_some (find_type x i s.types) ≡ true) ⊎ (ty_has x i k.pattern_type ≡ true) → (is_some (find_type x i s.types) ≡ true) ⊎ (have_type_unknown x i (p ∷ ps) ≡ true)
    at_start x i d (inl e) = inl e
    at_start x i d (inr e) = inr (or_left (has_type_unknown x i p) (have_type_unknown x i ps) (closed_type_has d x i e))

    at_first : (x : List ℕ) (i : ℕ) → Typed [] p k.pattern_type → (is_some (find_type x i q.types) ≡ true) ⊎ (has_type_unknown x i p ≡ true) → (is_some (find_type x i q.types) ≡ true → (is_some (find_type x i s.types) ≡ true) ⊎ (ty_has x i k.pattern_type ≡ true)) → (is_some (find_type x i s.types) ≡ true) ⊎ (have_type_unknown x i (p ∷ ps) ≡ true)
    at_first x i d (inl e) u = at_start x i d (u e)
    at_first x i d (inr e) u = inr (or_left (has_type_unknown x i p) (have_type_unknown x i ps) e)

    at_types : (x : List ℕ) (i : ℕ) → Typed [] p k.pattern_type → (is_some (find_type x i z.types) ≡ true) ⊎ (have_type_unknown x i ps ≡ true) → (is_some (find_type x i z.types) ≡ true → (is_some (find_type x i q.types) ≡ true) ⊎ (has_type_unknown x i p ≡ true)) → (is_some (find_type x i q.types) ≡ true → (is_some (find_type x i s.types) ≡ true) ⊎ (ty_has x i k.pattern_type ≡ true)) → (is_some (find_type x i s.types) ≡ true) ⊎ (have_type_unknown x i (p ∷ ps) ≡ true)
    at_types x i d (inl e) u v = at_first x i d (u e) v
    at_types x i d (inr e) u v = inr (or_right (has_type_unknown x i p) (have_type_unknown x i ps) e)

    at_place : (x : List ℕ) (i : ℕ) (T : Ty) → q.terms ≡ s.terms → (is_some (find_term x i T q.terms) ≡ true) ⊎ (has_unknown x i T p ≡ true) → (is_some (find_term x i T s.terms) ≡ true) ⊎ (have_unknown x i T (p ∷ ps) ≡ true)
    at_place x i T n (inl e) = inl (ap (λ fs. is_some (find_term x i T fs)) (sym n) ∙ e)
    at_place x i T n (inr e) = inr (or_left (has_unknown x i T p) (have_unknown x i T ps) e)

    at_terms : (x : List ℕ) (i : ℕ) (T : Ty) → q.terms ≡ s.terms → (is_some (find_term x i T z.terms) ≡ true) ⊎ (have_unknown x i T ps ≡ true) → (is_some (find_term x i T z.terms) ≡ true → (is_some (find_term x i T q.terms) ≡ true) ⊎ (has_unknown x i T p ≡ true)) → (is_some (find_term x i T s.terms) ≡ true) ⊎ (have_unknown x i T (p ∷ ps) ≡ true)
    at_terms x i T n (inl e) u = at_place x i T n (u e)
    at_terms x i T n (inr e) u = inr (or_right (has_unknown x i T p) (have_unknown x i T ps) e)

-- the two steps of a match that was found
two_steps : (p t : Tm) (o : Option Instance) (z : Instance) → (o >>= λ q. matched [] q p t) ≡ Some z → (q : Instance) × (o ≡ Some q) × (matched [] q p t ≡ Some z)
two_steps p t None z e = absurd (cc)
two_steps p t (Some q) z e = (q, refl, e)

adds_case : (s r : Instance) (p t : Tm) (ps ts : List Tm) → AllGood s.types s.terms → (k : IsShown s p t) → (o : Option Instance) → match_from s p t ≡ o → (o >>= λ z. all_from z ps ts) ≡ Some r → ((z : Instance) → AllGood z.types z.terms → TermsWithin s.terms z.terms → all_from z ps ts ≡ Some r → Adds z ps ts r) → Adds s (p ∷ ps) (t ∷ ts) r
adds_case s r p t ps ts g k None e h ih = absurd (cc)
adds_case s r p t ps ts g k (Some z) e h ih =
    let two = two_steps p t (ty_matched s k.pattern_type k.term_type) z (sym (steps_from s p t k.pattern_type k.term_type k.pattern_typed k.term_typed) ∙ e) in
    let f = front_good s two.0 z p t g k two.1 two.2 in
    front_added s two.0 z r p t ps ts g k two.1 two.2 (ih z f.0 f.1 h)

pub adds : (ps ts : List Tm) (s r : Instance) → AllGood s.types s.terms → AreShown s ps ts → all_from s ps ts ≡ Some r → Adds s ps ts r
adds [] [] s r g k e = subst (Adds s [] []) (some_same e) (nothing_added s)
adds (p ∷ ps) (t ∷ ts) s r g k e = adds_case s r p t ps ts g k.0 (match_from s p t) refl e (λ z gz w h. adds ps ts z r gz (shown_more s z w ps ts k.1) h)
adds [] (t ∷ ts) s r g k e = absurd (cc)
adds (p ∷ ps) [] s r g k e = absurd (cc)

-- ---- where there is a match, it agrees with what is found
one_agrees : (p t : Tm) (s r : Instance) → AllGood s.types s.terms → (k : IsShown s p t) → Covers r p → IsKept r.types r.terms → Agrees s r → bare (instance_of r p) ≡ bare t → (q : Instance) × (match_from s p t ≡ Some q) × Agrees q r
one_agrees p t s r good k cov kept a g =
    let dp = typed_of_type [] p k.pattern_type k.pattern_typed in
    let dt = typed_of_type [] t k.term_type k.term_typed in
    let whole : Typed [] (inst_tm r.types r.terms p) (inst_ty r.types k.pattern_type) = inst_typed r.types r.terms kept dp in
    let e : inst_ty r.types k.pattern_type ≡ k.term_type = one_type (right_typed (norm_conv whole)) dt g in
    let first = ty_completes k.pattern_type k.term_type s r.types a.types (λ x i h. cov.types x i (closed_type_has dp x i h)) e in
    let found = ty_finds k.pattern_type k.term_type s first.0 first.1 in
    let b : Agrees first.0 r = record { types = first.2; terms = λ x i T u h. a.terms x i T u (ap (find_term x i T) (sym found.terms) ∙ h) } in
    let rest = completes p t [] [] k.pattern_type k.term_type first.0 r (typed_asked s first.0 p t k.pattern_type k.term_type good k.parts found) k.normal dp dt tt (inr found.fit) cov kept b g in
    (rest.0, steps_from s p t k.pattern_type k.term_type k.pattern_typed k.term_typed ∙ ap (λ o. o >>= λ q. matched [] q p t) first.1 ∙ rest.1, rest.2)

pub all_agree : (ps ts : List Tm) (s r : Instance) → AllGood s.types s.terms → AreShown s ps ts → ((x : List ℕ) (i : ℕ) → have_type_unknown x i ps ≡ true → is_some (find_type x i r.types) ≡ true) → ((x : List ℕ) (i : ℕ) (T : Ty) → have_unknown x i T ps ≡ true → is_some (find_term x i T r.terms) ≡ true) → IsKept r.types r.terms → Agrees s r → MakesAll r ps ts → (q : Instance) × (all_from s ps ts ≡ Some q) × Agrees q r
all_agree [] [] s r good k c d kept a g = (s, refl, a)
all_agree (p ∷ ps) (t ∷ ts) s r good k c d kept a g =
    let cov : Covers r p = record {
      types = λ x i h. c x i (or_left (has_type_unknown x i p) (have_type_unknown x i ps) h);
      terms = λ x i T h. d x i T (or_left (has_unknown x i T p) (have_unknown x i T ps) h);
    } in
    let one = one_agrees p t s r good k.0 cov kept a g.0 in
    let two = two_steps p t (ty_matched s k.0.pattern_type k.0.term_type) one.0 (sym (steps_from s p t k.0.pattern_type k.0.term_type k.0.pattern_typed k.0.term_typed) ∙ one.1) in
    let after = front_good s two.0 one.0 p t good k.0 two.1 two.2 in
    let rest = all_agree ps ts one.0 r after.0 (shown_more s one.0 after.1 ps ts k.1) (λ x i h. c x i (or_right (has_type_unknown x i p) (have_type_unknown x i ps) h)) (λ x i T h. d x i T (or_right (has_unknown x i T p) (have_unknown x i T ps) h)) kept one.2 g.1 in
    (rest.0, ap (λ o. o >>= λ z. all_from z ps ts) one.1 ∙ rest.1, rest.2)
all_agree [] (t ∷ ts) s r good k c d kept a g = absurd g
all_agree (p ∷ ps) [] s r good k c d kept a g = absurd g

abbrev nothing : Instance
nothing = record { types = []; terms = [] }

agrees_nothing : (r : Instance) → Agrees nothing r
agrees_nothing r = record { types = record { keeps = λ x i A h. absurd (cc) }; terms = λ x i T u h. absurd (cc) }

matched_agrees : (ps ts : List Tm) (r : Instance) → AreAsked ps ts → AreMatched ps ts r → (q : Instance) × (match_all_of ps ts ≡ Some q) × Agrees q r
matched_agrees ps ts r k m = all_agree ps ts nothing r tt (shown_asked nothing ps ts k) (λ x i h. m.types x i ∙ h) (λ x i T h. m.terms x i T ∙ h) m.kept (agrees_nothing r) m.gives

pub none_of_all : (ps ts : List Tm) → match_all_of ps ts ≡ None → AreAsked ps ts → (s : Instance) → AreMatched ps ts s → ⊥
none_of_all ps ts e k s m =
    let a = matched_agrees ps ts s k m in
    let c : None ≡ Some a.0 = sym e ∙ a.1 in
    absurd (cc)

are_matched : (ps ts : List Tm) (s : Instance) → Adds nothing ps ts s → AreMatched ps ts s
are_matched ps ts s a = record {
  types = λ x i. same_test (is_some (find_type x i s.types)) (have_type_unknown x i ps) (λ e. second (a.only_types x i e)) (a.types x i);
  terms = λ x i T. same_test (is_some (find_term x i T s.terms)) (have_unknown x i T ps) (λ e. second (a.only_terms x i T e)) (a.terms x i T);
  kept = good_kept s.types s.terms (a.good tt);
  gives = a.gives s (types_within_self s.types) (terms_within_self s.terms);
}
  where
    second : {Q : Type 0} → (false ≡ true) ⊎ Q → Q
    second (inl k) = absurd (cc)
    second (inr k) = k

do_as : (ps ts : List Tm) (s r : Instance) → AreMatched ps ts s → AreMatched ps ts r → Agrees s r → DoesAs s r
do_as ps ts s r m n a = record {
  types = λ x i. at_type x i (find_type x i s.types) refl;
  terms = λ x i T. at_term x i T (find_term x i T s.terms) refl;
}
  where
    at_type : (x : List ℕ) (i : ℕ) (o : Option Ty) → find_type x i s.types ≡ o → find_type x i r.types ≡ o
    at_type x i (Some A) e = a.types.keeps x i A e
    at_type x i None e = none_of (find_type x i r.types) (n.types x i ∙ sym (m.types x i) ∙ ap is_some e)

    at_term : (x : List ℕ) (i : ℕ) (T : Ty) (o : Option Tm) → find_term x i T s.terms ≡ o → option_map (λ u. bare (norm u)) (find_term x i T r.terms) ≡ option_map bare o
    at_term x i T (Some u) e = let v = a.terms x i T u e in ap (option_map (λ u. bare (norm u))) v.1 ∙ ap Some v.2
    at_term x i T None e = ap (option_map (λ u. bare (norm u))) (none_of (find_term x i T r.terms) (n.terms x i T ∙ sym (m.terms x i T) ∙ ap is_some e))

pub found_all : (ps ts : List Tm) (s : Instance) → match_all_of ps ts ≡ Some s → AreAsked ps ts → AllMatch ps ts s
found_all ps ts s e k =
    let a = adds ps ts nothing s tt (shown_asked nothing ps ts k) e in
    let m = are_matched ps ts s a in
    record {
      are = m;
      normal = λ x i T u h. good_normal s.types s.terms x i T u (a.good tt) h;
      only = λ r n. let b = matched_agrees ps ts r k n in do_as ps ts s r m n (subst (λ z. Agrees z r) (some_same (sym b.1 ∙ e)) b.2);
    }
