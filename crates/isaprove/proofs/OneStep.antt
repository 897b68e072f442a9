-- A run has one way at most.
use Rattle.std.proofs.Common.{◌≡◌, ℕ, List, [], ◌∷◌, ◌++◌, Bool, true, false, ◌&&◌, Option, Some, None, Ok, Err, refl, sym, ap, subst, ◌∙◌, append_assoc}
use Rattle.std.specs.declared.result.Result.{Result}
use Rattle.isa_outer.specs.declared.command.Command.{Command}
use Rattle.isa_outer.specs.declared.command.Command.TheVariants as command
use Rattle.isa_outer.specs.declared.refusal.Kind.TheVariants as kind
use Rattle.isa_outer.specs.declared.refusal.Refused.{Refused}
use Rattle.isa_outer.specs.Texts.{reading_of}
use Rattle.isa_theory.specs.Applying.{Applied, IsLemmaOf, line_of}
use Rattle.isa_theory.proofs.OneAnswer.{one_next_context, one_lemma}
use Rattle.isaprove.specs.declared.failure.Rejection.{Rejection}
use Rattle.isaprove.specs.declared.progress.Progress.{Progress}
use Rattle.isaprove.specs.declared.session.OpenLemma.{OpenLemma}
use Rattle.isaprove.specs.declared.session.Session.{Session}
use Rattle.isaprove.specs.declared.status.Status.{Status}
use Rattle.isaprove.specs.declared.status.Status.TheVariants as status
use Rattle.isaprove.specs.Shown.{Piece}
use Rattle.isaprove.specs.Steps.{Next, Made, Declares, Begins, begun, declared, Outside, ComesIn, Comes}
use Rattle.isaprove.specs.Run.{Input, Given, Text, Long, Failed, State, Starts, Opens, Takes, Stopped, Step, ReadWords, RefuseWords, OpenFile, RefuseText, RefuseLength, FailToRead, SkipCommand, TakeCommand, CloseFile, RefuseEnd, Reaches, Stays, Goes, Turn, turn_of, start, keeps_on, tell, refusal_line, EndsWith}
use Rattle.isaprove.specs.Laws.{IsBeginning, OneRun}

-- what is made of what is told once is one thing
one_made : {A B : Type 0} (Tells : A → Type 0) (f : A → B) (x y : B) → ((a b : A) → Tells a → Tells b → a ≡ b) → Made Tells f x → Made Tells f y → x ≡ y
one_made {A} {B} Tells f x y one p q = sym p.is ∙ ap f (one p.of q.of p.told q.told) ∙ q.is

one_declares : (s : Session) (k : Command) (x y : Result Next Rejection) → Declares s k x → Declares s k y → x ≡ y
one_declares s k x y p q = one_made (Applied s.context k) (declared s (line_of k)) x y (one_next_context s.context k) p q

one_outside : (s : Session) (k : Command) (x y : Result Next Rejection) → Outside s k x → Outside s k y → x ≡ y
unfolding Outside
one_outside s (command.Typedecl line xs z) x y p q = one_declares s (command.Typedecl line xs z) x y p q
one_outside s (command.Judgment line z text) x y p q = one_declares s (command.Judgment line z text) x y p q
one_outside s (command.Consts line ks) x y p q = one_declares s (command.Consts line ks) x y p q
one_outside s (command.Axiomatization line axioms) x y p q = one_declares s (command.Axiomatization line axioms) x y p q
one_outside s (command.Lemma line label text) x y p q = one_made (IsLemmaOf s.context false label text) (begun s line) x y (one_lemma s.context false label text) p q
one_outside s (command.SchematicGoal line label text) x y p q = one_made (IsLemmaOf s.context true label text) (begun s line) x y (one_lemma s.context true label text) p q
one_outside s (command.Lemmas line label xs) x y p q = one_declares s (command.Lemmas line label xs) x y p q
one_outside s (command.Declare line ds) x y p q = one_declares s (command.Declare line ds) x y p q
one_outside s (command.DeclareOption line setting) x y p q = sym p ∙ q
one_outside s (command.Wrapper line safe before z m) x y p q = one_declares s (command.Wrapper line safe before z m) x y p q
one_outside s (command.Apply line m) x y p q = one_declares s (command.Apply line m) x y p q
one_outside s (command.By line m) x y p q = one_declares s (command.By line m) x y p q
one_outside s (command.Done line) x y p q = one_declares s (command.Done line) x y p q
one_outside s (command.Back line) x y p q = one_declares s (command.Back line) x y p q
one_outside s (command.Oops line) x y p q = one_declares s (command.Oops line) x y p q
one_outside s (command.Print line count) x y p q = one_declares s (command.Print line count) x y p q

one_in : (s : Session) (o : Option OpenLemma) (k : Command) (x y : Result Next Rejection) → ComesIn s o k x → ComesIn s o k y → x ≡ y
one_in s None k x y p q = one_outside s k x y p q
one_in s (Some l) k x y p q = sym p ∙ q

one_comes : (s : Session) (k : Command) (x y : Result Next Rejection) → Comes s k x → Comes s k y → x ≡ y
one_comes s k x y p q = one_in s s.lemma k x y p q

-- ---- steps
-- the same pieces, and the same state
record IsSame (ps qs : List Piece) (t u : State) : Type 0 where
  pub pieces : ps ≡ qs
  pub state : t ≡ u

same : (ps : List Piece) (t : State) → IsSame ps ps t t
same ps t = record { pieces = refl; state = refl }

no_bool : (b : Bool) → b ≡ true → b ≡ false → ⊥
no_bool b h g = let e : true ≡ false = sym h ∙ g in cc (e)

one_text : (a b : List ℕ) (g : Given) → g ≡ Text a → g ≡ Text b → a ≡ b
one_text a b g h k = let e : Text a ≡ Text b = sym h ∙ k in cc (e)

one_reading : (a b : List ℕ) (g : Given) (x y : Result (List Command) Refused) → g ≡ Text a → g ≡ Text b → reading_of a ≡ x → reading_of b ≡ y → x ≡ y
one_reading a b g x y h k p q = sym p ∙ ap reading_of (one_text a b g h k) ∙ q

from_starts : (words : List (List ℕ)) (inputs : List Input) (t u : State) (ps qs : List Piece) → Step (Starts words inputs) ps t → Step (Starts words inputs) qs u → IsSame ps qs t u
from_starts _ _ _ _ _ _ (ReadWords words inputs h) (ReadWords _ _ g) = same [] (Opens (start (keeps_on words)) inputs)
from_starts _ _ _ _ _ _ (ReadWords words inputs h) (RefuseWords _ _ g) = absurd (no_bool _ h g)
from_starts _ _ _ _ _ _ (RefuseWords words inputs h) (ReadWords _ _ g) = absurd (no_bool _ g h)
from_starts _ _ _ _ _ _ (RefuseWords words inputs h) (RefuseWords _ _ g) = same _ _

from_opens : (p : Progress) (inputs : List Input) (t u : State) (ps qs : List Piece) → Step (Opens p inputs) ps t → Step (Opens p inputs) qs u → IsSame ps qs t u
from_opens _ _ _ _ _ _ (OpenFile p input is a ks g h) (OpenFile _ _ _ b cs k e) =
    let one = one_reading a b input.given (Ok ks) (Ok cs) g k h e in
    let commands : ks ≡ cs = cc (one) in
    record { pieces = refl; state = ap (λ (xs : List Command). Takes p input.name xs is) commands }
from_opens _ _ _ _ _ _ (OpenFile p input is a ks g h) (RefuseText _ _ _ b r k e) = absurd (let one = one_reading a b input.given (Ok ks) (Err r) g k h e in cc (one))
from_opens _ _ _ _ _ _ (OpenFile p input is a ks g h) (RefuseLength _ _ _ k) = absurd (let e : Text a ≡ Long = sym g ∙ k in cc (e))
from_opens _ _ _ _ _ _ (OpenFile p input is a ks g h) (FailToRead _ _ _ k) = absurd (let e : Text a ≡ Failed = sym g ∙ k in cc (e))
from_opens _ _ _ _ _ _ (RefuseText p input is a r g h) (OpenFile _ _ _ b cs k e) = absurd (let one = one_reading a b input.given (Err r) (Ok cs) g k h e in cc (one))
from_opens _ _ _ _ _ _ (RefuseText p input is a r g h) (RefuseText _ _ _ b q k e) =
    let one = one_reading a b input.given (Err r) (Err q) g k h e in
    let refusal : r ≡ q = cc (one) in
    record { pieces = ap (λ (x : Refused). tell (refusal_line input.name x.line x.kind)) refusal; state = refl }
from_opens _ _ _ _ _ _ (RefuseText p input is a r g h) (RefuseLength _ _ _ k) = absurd (let e : Text a ≡ Long = sym g ∙ k in cc (e))
from_opens _ _ _ _ _ _ (RefuseText p input is a r g h) (FailToRead _ _ _ k) = absurd (let e : Text a ≡ Failed = sym g ∙ k in cc (e))
from_opens _ _ _ _ _ _ (RefuseLength p input is g) (OpenFile _ _ _ b cs k e) = absurd (let f : Text b ≡ Long = sym k ∙ g in cc (f))
from_opens _ _ _ _ _ _ (RefuseLength p input is g) (RefuseText _ _ _ b r k e) = absurd (let f : Text b ≡ Long = sym k ∙ g in cc (f))
from_opens _ _ _ _ _ _ (RefuseLength p input is g) (RefuseLength _ _ _ k) = same _ _
from_opens _ _ _ _ _ _ (RefuseLength p input is g) (FailToRead _ _ _ k) = absurd (let f : Long ≡ Failed = sym g ∙ k in cc (f))
from_opens _ _ _ _ _ _ (FailToRead p input is g) (OpenFile _ _ _ b cs k e) = absurd (let f : Text b ≡ Failed = sym k ∙ g in cc (f))
from_opens _ _ _ _ _ _ (FailToRead p input is g) (RefuseText _ _ _ b r k e) = absurd (let f : Text b ≡ Failed = sym k ∙ g in cc (f))
from_opens _ _ _ _ _ _ (FailToRead p input is g) (RefuseLength _ _ _ k) = absurd (let f : Long ≡ Failed = sym k ∙ g in cc (f))
from_opens _ _ _ _ _ _ (FailToRead p input is g) (FailToRead _ _ _ k) = same _ _

one_turn : (p : Progress) (file : List ℕ) (k : Command) (ks : List Command) (inputs : List Input) (r q : Result Next Rejection) (x y : Turn) → r ≡ q → turn_of file (line_of k) p (λ z. Takes z file ks inputs) r ≡ x → turn_of file (line_of k) p (λ z. Takes z file ks inputs) q ≡ y → IsSame x.pieces y.pieces x.state y.state
one_turn p file k ks inputs r q x y e a b =
    let one : x ≡ y = sym a ∙ ap (λ (z : Result Next Rejection). turn_of file (line_of k) p (λ w. Takes w file ks inputs) z) e ∙ b in
    record { pieces = ap (λ (t : Turn). t.pieces) one; state = ap (λ (t : Turn). t.state) one }

from_takes : (p : Progress) (file : List ℕ) (ks : List Command) (inputs : List Input) (t u : State) (ps qs : List Piece) → Step (Takes p file ks inputs) ps t → Step (Takes p file ks inputs) qs u → IsSame ps qs t u
from_takes _ _ _ _ _ _ _ _ (SkipCommand p file k ks is h) (SkipCommand _ _ _ _ _ g) = same [] (Takes p file ks is)
from_takes _ _ _ _ _ _ _ _ (SkipCommand p file k ks is h) (TakeCommand _ _ _ _ _ q y g d f) = absurd (no_bool _ h g)
from_takes _ _ _ _ _ _ _ _ (TakeCommand p file k ks is r x h c e) (SkipCommand _ _ _ _ _ g) = absurd (no_bool _ g h)
from_takes _ _ _ _ _ _ _ _ (TakeCommand p file k ks is r x h c e) (TakeCommand _ _ _ _ _ q y g d f) = one_turn p file k ks is r q x y (one_comes p.session k r q c d) e f
from_takes _ _ _ _ _ _ _ _ (CloseFile p file is h) (CloseFile _ _ _ g) = same [] (Opens p is)
from_takes _ _ _ _ _ _ _ _ (CloseFile p file is h) (RefuseEnd _ _ _ l g) = absurd (let e : None ≡ Some l = sym h ∙ g in cc (e))
from_takes _ _ _ _ _ _ _ _ (RefuseEnd p file is l h) (CloseFile _ _ _ g) = absurd (let e : None ≡ Some l = sym g ∙ h in cc (e))
from_takes _ _ _ _ _ _ _ _ (RefuseEnd p file is l h) (RefuseEnd _ _ _ m g) =
    let e : Some l ≡ Some m = sym h ∙ g in
    let one : l ≡ m = cc (e) in
    record { pieces = ap (λ (x : OpenLemma). tell (refusal_line file x.lemma.line kind.OpenProof)) one; state = refl }

one_step : (s t u : State) (ps qs : List Piece) → Step s ps t → Step s qs u → IsSame ps qs t u
one_step (Starts words inputs) t u ps qs d e = from_starts words inputs t u ps qs d e
one_step (Opens p inputs) t u ps qs d e = from_opens p inputs t u ps qs d e
one_step (Takes p file ks inputs) t u ps qs d e = from_takes p file ks inputs t u ps qs d e
one_step (Stopped s) t u ps qs d e = stays s t u ps qs d
  where
    stays : (s : Status) (t u : State) (ps qs : List Piece) → Step (Stopped s) ps t → IsSame ps qs t u
    stays s t u ps qs d = elim d [ ]

-- no step leads on from an end
no_step : (s t : State) (ps : List Piece) (answer : ℕ) → Step s ps t → EndsWith s answer → ⊥
no_step _ _ _ answer (ReadWords words inputs h) e = e
no_step _ _ _ answer (RefuseWords words inputs h) e = e
no_step _ _ _ answer (OpenFile p input inputs bytes ks g h) e = e
no_step _ _ _ answer (RefuseText p input inputs bytes r g h) e = e
no_step _ _ _ answer (RefuseLength p input inputs g) e = e
no_step _ _ _ answer (FailToRead p input inputs g) e = e
no_step _ _ _ answer (SkipCommand p file k ks inputs h) e = e
no_step _ _ _ answer (TakeCommand p file k ks inputs r turn h c f) e = e
no_step _ _ _ answer (CloseFile p file inputs h) e = e
no_step _ _ _ answer (RefuseEnd p file inputs l h) e = e

-- ---- runs
begins : (s t u : State) (ps qs : List Piece) (answer : ℕ) → Reaches s ps t → Reaches s qs u → EndsWith u answer → IsBeginning ps qs
begins _ _ u _ qs answer (Stays s) r e = record { rest = qs; split = refl }
begins _ _ _ _ _ answer (Goes s t u ps qs d r) (Stays _) e = absurd (no_step s t ps answer d e)
begins _ _ _ _ _ answer (Goes s t u ps qs d r) (Goes _ v w xs ys f g) e =
    let one : IsSame ps xs t v = one_step s t v ps xs d f in
    let more : IsBeginning qs ys = begins t u w qs ys answer r (subst (λ (x : State). Reaches x ys w) (sym one.state) g) e in
    record { rest = more.rest; split = ap (λ (zs : List Piece). zs ++ ys) (sym one.pieces) ∙ ap (λ (zs : List Piece). ps ++ zs) more.split ∙ sym (append_assoc ps qs more.rest) }

-- ends of the same run
record IsEnd (ps qs : List Piece) (t u : State) : Type 0 where
  pub pieces : ps ≡ qs
  pub state : t ≡ u

ends : (s t u : State) (ps qs : List Piece) (a b : ℕ) → Reaches s ps t → EndsWith t a → Reaches s qs u → EndsWith u b → IsEnd ps qs t u
ends _ _ _ _ _ a b (Stays s) h (Stays _) e = record { pieces = refl; state = refl }
ends _ _ _ _ _ a b (Stays s) h (Goes _ v w xs ys f g) e = absurd (no_step s v xs a f h)
ends _ _ _ _ _ a b (Goes s t u ps qs d r) h (Stays _) e = absurd (no_step s t ps b d e)
ends _ _ _ _ _ a b (Goes s t u ps qs d r) h (Goes _ v w xs ys f g) e =
    let one : IsSame ps xs t v = one_step s t v ps xs d f in
    let more : IsEnd qs ys u w = ends t u w qs ys a b r h (subst (λ (x : State). Reaches x ys w) (sym one.state) g) e in
    record { pieces = ap (λ (zs : List Piece). ps ++ zs) more.pieces ∙ ap (λ (zs : List Piece). zs ++ ys) one.pieces; state = more.state }

one_answer : (s : State) (a b : ℕ) → EndsWith s a → EndsWith s b → a ≡ b
one_answer (Starts words inputs) a b h e = absurd h
one_answer (Opens p []) a b h e = h ∙ sym e
one_answer (Opens p (i ∷ is)) a b h e = absurd h
one_answer (Takes p file ks is) a b h e = absurd h
one_answer (Stopped s) a b h e = h ∙ sym e

pub one_run : OneRun
one_run =
    record {
      begins = λ from s t ps qs answer r q e. begins from s t ps qs answer r q e;
      answers = λ from s t ps qs a b r h q e.
          let same : IsEnd ps qs s t = ends from s t ps qs a b r h q e in
          (same.pieces, one_answer t a b (subst (λ (x : State). EndsWith x a) same.state h) e);
    }
