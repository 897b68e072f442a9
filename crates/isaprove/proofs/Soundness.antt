-- What a run shows is sound.
use Rattle.std.proofs.Common.{◌≡◌, ℕ, List, [], ◌∷◌, ◌++◌, Bool, true, false, cond, Option, Some, None, Ok, Err, refl, subst}
use Rattle.std.specs.declared.result.Result.{Result}
use Rattle.isa_outer.specs.declared.command.Command.{Command}
use Rattle.isa_theory.specs.Applying.{line_of}
use Rattle.isaprove.specs.declared.failure.Failure.{Failure}
use Rattle.isaprove.specs.declared.failure.Rejection.{Rejection}
use Rattle.isaprove.specs.declared.failure.Rejection.TheVariants as rejection
use Rattle.isaprove.specs.declared.progress.Progress.{Progress}
use Rattle.isaprove.specs.declared.status.Status.TheVariants as status
use Rattle.isaprove.specs.Shown.{Piece, Shown}
use Rattle.isaprove.specs.Steps.{Next, Comes}
use Rattle.isaprove.specs.Run.{Input, State, Starts, Opens, Takes, Stopped, Step, ReadWords, RefuseWords, OpenFile, RefuseText, RefuseLength, FailToRead, SkipCommand, TakeCommand, CloseFile, RefuseEnd, Reaches, Stays, Goes, Turn, turn_of, skipping, accepting, show, start, keeps_on}
use Rattle.isaprove.specs.Sound.{AreSound}
use Rattle.isaprove.specs.Laws.{RunsAreSound}
use Rattle.isaprove.proofs.Sessions.{SessionKept, NextKept, ShowsSound, dropped_kept, comes_kept}

StateKept : State → Type 0
StateKept (Starts words inputs) = Unit {0}
StateKept (Opens p inputs) = SessionKept p.session
StateKept (Takes p file ks inputs) = SessionKept p.session
StateKept (Stopped s) = Unit {0}

-- what a step shows is sound, and leads to such a state
record StepKept (ps : List Piece) (t : State) : Type 0 where
  pub state : StateKept t
  pub sound : AreSound ps

AreSound-append : (ps qs : List Piece) → AreSound ps → AreSound qs → AreSound (ps ++ qs)
AreSound-append [] qs p q = q
AreSound-append (x ∷ ps) qs p q = (p.0, AreSound-append ps qs p.1 q)

start_kept : (keeps : Bool) → SessionKept (start keeps).session
start_kept keeps = record { context = record { props = tt; facts = tt }; lemma = tt }

shown_kept : (shows : Option Shown) (t : State) → StateKept t → ShowsSound shows → StepKept (show shows) t
shown_kept None t k s = record { state = k; sound = tt }
shown_kept (Some shows) t k s = record { state = k; sound = (s, tt) }

failed_kept : (p : Progress) (f : Failure) (file : List ℕ) (ks : List Command) (inputs : List Input) (b : Bool) → SessionKept p.session → StateKept (cond b (Takes (skipping p f) file ks inputs) (Stopped (status.Failed f)))
unfolding StateKept
failed_kept p f file ks inputs true k = dropped_kept p.session k
failed_kept p f file ks inputs false k = tt

turn_kept : (file : List ℕ) (p : Progress) (k : Command) (ks : List Command) (inputs : List Input) (r : Result Next Rejection) → SessionKept p.session → Comes p.session k r → let t : Turn = turn_of file (line_of k) p (λ q. Takes q file ks inputs) r in StepKept t.pieces t.state
unfolding StateKept
turn_kept file p k ks inputs (Ok n) g d = let x : NextKept n = comes_kept p.session k n g d in shown_kept n.shows (Takes (accepting p n.session) file ks inputs) x.session x.shows
turn_kept file p k ks inputs (Err (rejection.Failed f)) g d = record { state = failed_kept p f file ks inputs p.keeps_on g; sound = (tt, tt) }
turn_kept file p k ks inputs (Err (rejection.Refused r)) g d = record { state = tt; sound = (tt, tt) }

step_kept : (s t : State) (ps : List Piece) → Step s ps t → StateKept s → StepKept ps t
unfolding StateKept
step_kept _ _ _ (ReadWords words inputs h) k = record { state = start_kept (keeps_on words); sound = tt }
step_kept _ _ _ (RefuseWords words inputs h) k = record { state = tt; sound = (tt, tt) }
step_kept _ _ _ (OpenFile p input inputs bytes ks g h) k = record { state = k; sound = tt }
step_kept _ _ _ (RefuseText p input inputs bytes r g h) k = record { state = tt; sound = (tt, tt) }
step_kept _ _ _ (RefuseLength p input inputs g) k = record { state = tt; sound = (tt, tt) }
step_kept _ _ _ (FailToRead p input inputs g) k = record { state = tt; sound = (tt, tt) }
step_kept _ _ _ (SkipCommand p file c cs inputs h) k = record { state = k; sound = tt }
step_kept _ _ _ (TakeCommand p file c cs inputs r turn h d e) k = subst (λ (t : Turn). StepKept t.pieces t.state) e (turn_kept file p c cs inputs r k d)
step_kept _ _ _ (CloseFile p file inputs h) k = record { state = k; sound = tt }
step_kept _ _ _ (RefuseEnd p file inputs l h) k = record { state = tt; sound = (tt, tt) }

reaches_sound : (s t : State) (ps : List Piece) → Reaches s ps t → StateKept s → AreSound ps
reaches_sound _ _ _ (Stays s) k = tt
reaches_sound _ _ _ (Goes s t u ps qs d e) k = let x : StepKept ps t = step_kept s t ps d k in AreSound-append ps qs x.sound (reaches_sound t u qs e x.state)

pub runs_sound : RunsAreSound
unfolding StateKept
runs_sound words inputs pieces to r = reaches_sound (Starts words inputs) to pieces r tt
