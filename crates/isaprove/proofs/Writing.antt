-- What is written of pieces, one after another.
use Rattle.std.proofs.Common.{◌≡◌, ℕ, List, [], ◌∷◌, ◌++◌, ◌<◌, take, refl, sym, ap, subst, ◌∙◌, append_assoc, append-nil, inl, inr, arith}
use Rattle.std.proofs.KnownBytes.{Appends-nil, Appends-trans}
use Rattle.std.specs.Prelude.{Ok, Err, IsErrAnd}
use Rattle.std.specs.declared.result.Result.{Result}
use Rattle.std.specs.Io.KnownBytes.{Appends}
use Rattle.std.proofs.Math.Seq.{take-nil}
use Rattle.isa_io.specs.SinkSeen.{SinkSeen, WritesAll, WritesPrefix}
use Rattle.isaprove.specs.declared.console.Console.{Console}
use Rattle.isaprove.specs.Sinks.{Sinks, sinks, IsSame}
use Rattle.isaprove.specs.Shown.{Piece, Shown, ToOut, ToErr, piece_out, piece_err, out_of, err_of, shown_text}
use Rattle.isaprove.specs.Printed.{WritesBytes, Writes, Rose, CutShort}
use Rattle.isaprove.specs.Does.{NoFault, All, Puts, Shows, Tells, IsQuiet}
use Rattle.isaprove.specs.declared.status.Stop.{Stop}
use Rattle.isaprove.specs.declared.status.Stop.TheVariants as stops

-- a console of the same sinks, at each step
pub same_trans : {O E : Type 0} (a b c : Console O E) → IsSame a b → IsSame b c → IsSame a c
same_trans {O} {E} a b c p q = record { out = q.out ∙ p.out; err = q.err ∙ p.err }

-- ---- one piece
-- bytes for a sink, and none behind them
abbrev Written : SinkSeen → SinkSeen → List ℕ → Type 0
Written before now bytes = Appends before.written now.written bytes

alone : (before now : SinkSeen) (bytes : List ℕ) → Written before now bytes → Written before now (bytes ++ [])
alone before now bytes w = subst (λ (bs : List ℕ). Written before now bs) (sym (append-nil bytes)) w

-- no bytes, whatever count of them was written
none_cut : (x : SinkSeen) (n : ℕ) → Written x x (take n [])
none_cut x n = subst (λ (bs : List ℕ). Written x x bs) (sym (take-nil n)) (Appends-nil x.written)

-- nothing was written
nothing_written : (a : Sinks) → WritesBytes a a [] []
nothing_written a = record { out = Appends-nil a.out.written; err = Appends-nil a.err.written }

no_fault : (a : Sinks) → NoFault a a
no_fault a = record { out = refl; err = refl }

pub All-nothing : (a : Sinks) → All a a []
All-nothing a = record { no_fault = no_fault a; writes = nothing_written a }

-- a piece for out was written, or cut short
pub all_out : (out now err : SinkSeen) (shows : Shown) → WritesAll (shown_text shows) out now → All (sinks out err) (sinks now err) (ToOut shows ∷ [])
all_out out now err shows w =
    record {
      no_fault = record { out = w.faults; err = refl };
      writes = record { out = alone out now (shown_text shows) w.written; err = Appends-nil err.written };
    }

pub cut_out : (out now err : SinkSeen) (shows : Shown) → WritesPrefix (shown_text shows) out now → CutShort (sinks out err) (sinks now err) (ToOut shows ∷ [])
cut_out out now err shows p =
    record {
      rose = inl p.rose;
      front = [];
      piece = ToOut shows;
      count = p.count;
      split = refl;
      writes = record { out = p.written; err = none_cut err p.count };
    }

-- a piece for err was written, or cut short
pub all_err : (out err now : SinkSeen) (bytes : List ℕ) → WritesAll bytes err now → All (sinks out err) (sinks out now) (ToErr bytes ∷ [])
all_err out err now bytes w =
    record {
      no_fault = record { out = refl; err = w.faults };
      writes = record { out = Appends-nil out.written; err = alone err now bytes w.written };
    }

pub cut_err : (out err now : SinkSeen) (bytes : List ℕ) → WritesPrefix bytes err now → CutShort (sinks out err) (sinks out now) (ToErr bytes ∷ [])
cut_err out err now bytes p =
    record {
      rose = inr p.rose;
      front = [];
      piece = ToErr bytes;
      count = p.count;
      split = refl;
      writes = record { out = none_cut out p.count; err = p.written };
    }

-- the bytes of a piece were printed
pub shows_all : {T : Type 0} (out now err : SinkSeen) (bytes : List ℕ) (x : T) → WritesAll bytes out now → Shows {T = T} bytes (Ok x) (sinks out err) (sinks now err)
shows_all {T} out now err bytes x w = λ shows e. all_out out now err shows (subst (λ (bs : List ℕ). WritesAll bs out now) (sym e) w)

shows_stop : {T : Type 0} (out now err : SinkSeen) (bytes : List ℕ) (r : Result T Stop) → WritesPrefix bytes out now → IsErrAnd r (λ e. e ≡ stops.Write) → (shows : Shown) → shown_text shows ≡ bytes → Puts (ToOut shows) r (sinks out err) (sinks now err)
shows_stop {T} out now err bytes (Ok x) w h shows e = absurd h
shows_stop {T} out now err bytes (Err s) w h shows e =
    subst (λ (s : Stop). Puts {T = T} (ToOut shows) (Err s) (sinks out err) (sinks now err)) (sym h)
    (cut_out out now err shows (subst (λ (bs : List ℕ). WritesPrefix bs out now) (sym e) w))

pub shows_cut : {T : Type 0} (out now err : SinkSeen) (bytes : List ℕ) (r : Result T Stop) → WritesPrefix bytes out now → IsErrAnd r (λ e. e ≡ stops.Write) → Shows bytes r (sinks out err) (sinks now err)
shows_cut {T} out now err bytes r w h = λ shows e. shows_stop out now err bytes r w h shows e

pub tells_cut : {T : Type 0} (out err now : SinkSeen) (bytes : List ℕ) (r : Result T Stop) → WritesPrefix bytes err now → IsErrAnd r (λ e. e ≡ stops.Write) → Tells bytes r (sinks out err) (sinks out now)
tells_cut {T} out err now bytes (Ok x) w h = absurd h
tells_cut {T} out err now bytes (Err s) w h = subst (λ (s : Stop). Puts {T = T} (ToErr bytes) (Err s) (sinks out err) (sinks out now)) (sym h) (cut_err out err now bytes w)

-- ---- lists of pieces
out_of-append : (ps qs : List Piece) → out_of (ps ++ qs) ≡ out_of ps ++ out_of qs
out_of-append [] qs = refl
out_of-append (p ∷ ps) qs = ap (λ bs. piece_out p ++ bs) (out_of-append ps qs) ∙ sym (append_assoc (piece_out p) (out_of ps) (out_of qs))

err_of-append : (ps qs : List Piece) → err_of (ps ++ qs) ≡ err_of ps ++ err_of qs
err_of-append [] qs = refl
err_of-append (p ∷ ps) qs = ap (λ bs. piece_err p ++ bs) (err_of-append ps qs) ∙ sym (append_assoc (piece_err p) (err_of ps) (err_of qs))

-- bytes behind pieces
bytes_after : (a b c : Sinks) (ps : List Piece) (out err : List ℕ) → Writes a b ps → WritesBytes b c out err → WritesBytes a c (out_of ps ++ out) (err_of ps ++ err)
bytes_after a b c ps out err p q =
    record {
      out = Appends-trans a.out.written b.out.written c.out.written (out_of ps) out p.out q.out;
      err = Appends-trans a.err.written b.err.written c.err.written (err_of ps) err p.err q.err;
    }

Writes-trans : (a b c : Sinks) (ps qs : List Piece) → Writes a b ps → Writes b c qs → Writes a c (ps ++ qs)
Writes-trans a b c ps qs p q =
    let both : WritesBytes a c (out_of ps ++ out_of qs) (err_of ps ++ err_of qs) = bytes_after a b c ps (out_of qs) (err_of qs) p q in
    record {
      out = subst (λ (bs : List ℕ). Appends a.out.written c.out.written bs) (sym (out_of-append ps qs)) both.out;
      err = subst (λ (bs : List ℕ). Appends a.err.written c.err.written bs) (sym (err_of-append ps qs)) both.err;
    }

NoFault-trans : (a b c : Sinks) → NoFault a b → NoFault b c → NoFault a c
NoFault-trans a b c p q = record { out = q.out ∙ p.out; err = q.err ∙ p.err }

Rose-later : (a b c : Sinks) → NoFault a b → Rose b c → Rose a c
Rose-later a b c p r = elim r [ inl h ↦ inl (omega (arith, p.out)) | inr h ↦ inr (omega (arith, p.err)) ]

pub All-trans : (a b c : Sinks) (ps qs : List Piece) → All a b ps → All b c qs → All a c (ps ++ qs)
All-trans a b c ps qs p q =
    record { no_fault = NoFault-trans a b c p.no_fault q.no_fault; writes = Writes-trans a b c ps qs p.writes q.writes }

-- the bytes of two lists of pieces, and then others
bytes_of_both : (f : List Piece → List ℕ) (ps qs : List Piece) (bytes : List ℕ) → f (ps ++ qs) ≡ f ps ++ f qs → f (ps ++ qs) ++ bytes ≡ f ps ++ (f qs ++ bytes)
bytes_of_both f ps qs bytes e = ap (λ bs. bs ++ bytes) e ∙ append_assoc (f ps) (f qs) bytes

pub CutShort-after : (a b c : Sinks) (ps qs : List Piece) → All a b ps → CutShort b c qs → CutShort a c (ps ++ qs)
CutShort-after a b c ps qs p q =
    let out : List ℕ = take q.count (piece_out q.piece) in
    let err : List ℕ = take q.count (piece_err q.piece) in
    let both : WritesBytes a c (out_of ps ++ (out_of q.front ++ out)) (err_of ps ++ (err_of q.front ++ err)) = bytes_after a b c ps (out_of q.front ++ out) (err_of q.front ++ err) p.writes q.writes in
    record {
      rose = Rose-later a b c p.no_fault q.rose;
      front = ps ++ q.front;
      piece = q.piece;
      count = q.count;
      split = ap (λ xs. ps ++ xs) q.split ∙ sym (append_assoc ps q.front (q.piece ∷ []));
      writes = record {
        out = subst (λ (bs : List ℕ). Appends a.out.written c.out.written bs) (sym (bytes_of_both out_of ps q.front out (out_of-append ps q.front))) both.out;
        err = subst (λ (bs : List ℕ). Appends a.err.written c.err.written bs) (sym (bytes_of_both err_of ps q.front err (err_of-append ps q.front))) both.err;
      };
    }
