-- From state to state, with what was written on the way.
use Rattle.std.proofs.Common.{◌≡◌, ℕ, List, [], ◌∷◌, ◌++◌, refl, sym, ap, subst, ◌∙◌, append_assoc, append-nil}
use Rattle.std.specs.Prelude.{Ok, Err, IsErrAnd}
use Rattle.std.specs.declared.result.Result.{Result}
use Rattle.isaprove.specs.Sinks.{Sinks}
use Rattle.isaprove.specs.Shown.{Piece, ToErr}
use Rattle.isaprove.specs.Run.{State, Stopped, Step, Reaches, Stays, Goes, tell}
use Rattle.isaprove.specs.Printed.{CutShort}
use Rattle.isaprove.specs.Does.{All, Passes, Leaves, IsCut, StopsAt, Does, IsQuiet, Puts, Tells, StopsWith}
use Rattle.isaprove.specs.declared.status.Status.{Status}
use Rattle.isaprove.specs.declared.status.Stop.{Stop}
use Rattle.isaprove.specs.declared.status.Stop.TheVariants as stops
use Rattle.isaprove.proofs.Writing.{All-nothing, All-trans, CutShort-after}

pub one_step : (s t : State) (ps : List Piece) → Step s ps t → Reaches s ps t
one_step s t ps d = subst (λ (xs : List Piece). Reaches s xs t) (append-nil ps) (Goes s t t ps [] d (Stays t))

pub reaches_then : (s t u : State) (ps qs : List Piece) → Reaches s ps t → Reaches t qs u → Reaches s (ps ++ qs) u
reaches_then _ _ u _ qs (Stays s) r = r
reaches_then _ _ u _ qs (Goes s t v ps rs d e) r =
    subst (λ (xs : List Piece). Reaches s xs u) (sym (append_assoc ps rs qs)) (Goes s t u ps (rs ++ qs) d (reaches_then t v u rs qs e r))

-- ---- what was written on the way
pub passes_stay : (s : State) (a : Sinks) → Passes s s a a
passes_stay s a = record { pieces = []; reaches = Stays s; all = All-nothing a }

pub passes_step : (s t : State) (ps : List Piece) (a b : Sinks) → Step s ps t → All a b ps → Passes s t a b
passes_step s t ps a b d w = record { pieces = ps; reaches = one_step s t ps d; all = w }

pub passes_then : (s t u : State) (a b c : Sinks) → Passes s t a b → Passes t u b c → Passes s u a c
passes_then s t u a b c p q =
    record {
      pieces = p.pieces ++ q.pieces;
      reaches = reaches_then s t u p.pieces q.pieces p.reaches q.reaches;
      all = All-trans a b c p.pieces q.pieces p.all q.all;
    }

pub leaves_quiet : (s : State) (a b : Sinks) → IsQuiet a b → Leaves s a b
leaves_quiet s a b w = record { to = s; passes = record { pieces = []; reaches = Stays s; all = w } }

pub cut_step : (s t : State) (ps : List Piece) (a b : Sinks) → Step s ps t → CutShort a b ps → IsCut s a b
cut_step s t ps a b d w = record { pieces = ps; to = t; reaches = one_step s t ps d; cut = w }

-- ---- stops
pub stops_then : (s t : State) (stop : Stop) (a b c : Sinks) → Passes s t a b → StopsAt t stop b c → StopsAt s stop a c
stops_then s t (stops.Ended st) a b c p d = passes_then s t (Stopped st) a b c p d
stops_then s t stops.Memory a b c p d = record { to = d.to; passes = passes_then s t d.to a b c p d.passes }
stops_then s t stops.Write a b c p d =
    record {
      pieces = p.pieces ++ d.pieces;
      to = d.to;
      reaches = reaches_then s t d.to p.pieces d.pieces p.reaches d.reaches;
      cut = CutShort-after a b c p.pieces d.pieces p.all d.cut;
    }

pub does_then : {T : Type 0} (s t u : State) (r : Result T Stop) (a b c : Sinks) → Passes s t a b → Does t r u b c → Does s r u a c
does_then {T} s t u (Ok x) a b c p d = passes_then s t u a b c p d
does_then {T} s t u (Err stop) a b c p d = stops_then s t stop a b c p d

-- a function that returned the stop of another one
pub returns_stop : {T : Type 0} (s t : State) (r : Result T Stop) (stop : Stop) (a b : Sinks) → IsErrAnd r (λ e. e ≡ stop) → StopsAt s stop a b → Does s r t a b
returns_stop {T} s t (Ok x) stop a b h at = absurd h
returns_stop {T} s t (Err e) stop a b h at = subst (λ (x : Stop). StopsAt s x a b) (sym h) at

-- a function that wrote nothing, and returned want of memory
pub memory_does : {T : Type 0} (s t : State) (r : Result T Stop) (a : Sinks) → IsErrAnd r (λ e. e ≡ stops.Memory) → Does s r t a a
memory_does {T} s t r a h = returns_stop s t r stops.Memory a a h (leaves_quiet s a a (All-nothing a))

-- ---- one piece
pub put_does : {T : Type 0} (s t : State) (piece : Piece) (r : Result T Stop) (a b : Sinks) → Step s (piece ∷ []) t → Puts piece r a b → Does s r t a b
put_does {T} s t piece (Ok x) a b d w = passes_step s t (piece ∷ []) a b d w
put_does {T} s t piece (Err (stops.Ended st)) a b d w = absurd w
put_does {T} s t piece (Err stops.Memory) a b d w = leaves_quiet s a b w
put_does {T} s t piece (Err stops.Write) a b d w = cut_step s t (piece ∷ []) a b d w

-- a line that stops the run was told
pub stops_does : {T : Type 0} (s t : State) (st : Status) (line : List ℕ) (r : Result T Stop) (a b : Sinks) → Step s (tell line) (Stopped st) → StopsWith st line r a b → Does s r t a b
stops_does {T} s t st line (Ok x) a b d w = absurd w
stops_does {T} s t st line (Err (stops.Ended q)) a b d w = subst (λ (z : Status). Passes s (Stopped z) a b) (sym w.0) (passes_step s (Stopped st) (tell line) a b d w.1)
stops_does {T} s t st line (Err stops.Memory) a b d w = leaves_quiet s a b w
stops_does {T} s t st line (Err stops.Write) a b d w = cut_step s (Stopped st) (tell line) a b d w

-- ---- functions that tell a line and stop
pub memory_stops : {T : Type 0} (st : Status) (line : List ℕ) (r : Result T Stop) (a : Sinks) → IsErrAnd r (λ e. e ≡ stops.Memory) → StopsWith st line r a a
memory_stops {T} st line (Ok x) a h = absurd h
memory_stops {T} st line (Err e) a h = subst (λ (s : Stop). StopsWith {T = T} st line (Err s) a a) (sym h) (All-nothing a)

pub line_told : {T : Type 0} (st : Status) (line bytes : List ℕ) (r : Result T Stop) (a b : Sinks) → bytes ≡ line → IsErrAnd r (λ e. e ≡ stops.Ended st) → All a b (ToErr bytes ∷ []) → StopsWith st line r a b
line_told {T} st line bytes (Ok x) a b l h w = absurd h
line_told {T} st line bytes (Err e) a b l h w =
    subst (λ (s : Stop). StopsWith {T = T} st line (Err s) a b) (sym h) (refl, subst (λ (bs : List ℕ). All a b (ToErr bs ∷ [])) l w)

cut_stops : (T : Type 0) (st : Status) (line : List ℕ) (s : Stop) (a b : Sinks) → Puts {T = Unit {0}} (ToErr line) (Err s) a b → StopsWith {T = T} st line (Err s) a b
cut_stops T st line (stops.Ended q) a b w = absurd w
cut_stops T st line stops.Memory a b w = w
cut_stops T st line stops.Write a b w = w

pub line_stopped : {T : Type 0} (st : Status) (line bytes : List ℕ) (r : Result T Stop) (s : Stop) (a b : Sinks) → bytes ≡ line → IsErrAnd r (λ e. e ≡ s) → Tells {T = Unit {0}} bytes (Err s) a b → StopsWith st line r a b
line_stopped {T} st line bytes (Ok x) s a b l h w = absurd h
line_stopped {T} st line bytes (Err e) s a b l h w =
    subst (λ (z : Stop). StopsWith {T = T} st line (Err z) a b) (sym h)
    (cut_stops T st line s a b (subst (λ (bs : List ℕ). Puts {T = Unit {0}} (ToErr bs) (Err s) a b) l w))
