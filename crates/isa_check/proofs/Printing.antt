-- Pieces, one after another, and what is written of them.
use Rattle.std.proofs.Common.{◌≡◌, ℕ, List, [], ◌∷◌, ◌++◌, ◌<◌, ◌+◌, length, map, take, drop, get_or, refl, sym, ap, subst, ◌∙◌, append_assoc, append-nil, inl, inr, arith}
use Rattle.std.proofs.KnownBytes.{Appends-nil, Appends-trans}
use Rattle.std.proofs.lemmas.List.{drop_more}
use Rattle.std.specs.Prelude.{Ok, Err, IsErrAnd}
use Rattle.std.specs.declared.result.Result.{Result}
use Rattle.std.specs.Io.KnownBytes.{Appends}
use Rattle.isa_io.specs.SinkSeen.{SinkSeen, WritesAll, WritesPrefix}
use Rattle.isa_cert.specs.declared.certs.Accepted.{Accepted}
use Rattle.isa_check.specs.Run.{Piece, ToOut, ToErr, Run, told_all, line_of, refused, refused_line, run_checked}
use Rattle.isa_cert.specs.Checking.{Refusal}
use Rattle.isa_check.specs.Written.{Sinks, Writes, NoFault, Rose, All, Front, CutShort, out_of, err_of, clip, Answers}
use Rattle.isa_check.specs.Does.{Does, StopsAt, sinks, code_of, stop_code}
use Rattle.isa_check.specs.declared.status.Status.{Status}
use Rattle.isa_check.specs.declared.status.Status.TheVariants as status
use Rattle.isa_check.specs.declared.status.Stop.{Stop}
use Rattle.isa_check.specs.declared.status.Stop.TheVariants as stops

-- ---- one piece
-- one piece for out was cut short
pub cut_out : (out now err : SinkSeen) (bytes : List ℕ) → WritesPrefix bytes out now → CutShort (sinks out err) (sinks now err) (ToOut bytes ∷ [])
cut_out out now err bytes p =
    record {
      rose = inl p.rose;
      front = [];
      piece = ToOut bytes;
      count = p.count;
      rest = [];
      split = refl;
      writes = record {
        out = subst (λ (bs : List ℕ). Appends out.written now.written bs) (sym (append-nil (take p.count bytes))) p.written;
        err = Appends-nil err.written;
      };
    }

-- one piece for err was cut short
pub cut_err : (out err now : SinkSeen) (bytes : List ℕ) → WritesPrefix bytes err now → CutShort (sinks out err) (sinks out now) (ToErr bytes ∷ [])
cut_err out err now bytes p =
    record {
      rose = inr p.rose;
      front = [];
      piece = ToErr bytes;
      count = p.count;
      rest = [];
      split = refl;
      writes = record {
        out = Appends-nil out.written;
        err = subst (λ (bs : List ℕ). Appends err.written now.written bs) (sym (append-nil (take p.count bytes))) p.written;
      };
    }

-- all of a piece for out was written
pub all_out : (out now err : SinkSeen) (bytes : List ℕ) → WritesAll bytes out now → All (sinks out err) (sinks now err) (ToOut bytes ∷ [])
all_out out now err bytes w =
    record {
      no_fault = record { out = w.faults; err = refl };
      writes = record {
        out = subst (λ (bs : List ℕ). Appends out.written now.written bs) (sym (append-nil bytes)) w.written;
        err = Appends-nil err.written;
      };
    }

-- all of a piece for err was written
pub all_err : (out err now : SinkSeen) (bytes : List ℕ) → WritesAll bytes err now → All (sinks out err) (sinks out now) (ToErr bytes ∷ [])
all_err out err now bytes w =
    record {
      no_fault = record { out = refl; err = w.faults };
      writes = record {
        out = Appends-nil out.written;
        err = subst (λ (bs : List ℕ). Appends err.written now.written bs) (sym (append-nil bytes)) w.written;
      };
    }

-- nothing was written
pub nothing_does : (a : Sinks) (ps : List Piece) → Front a a ps
nothing_does a ps = record { no_fault = record { out = refl; err = refl }; front = []; rest = ps; split = refl; writes = record { out = Appends-nil a.out.written; err = Appends-nil a.err.written } }

All-nothing : (a : Sinks) → All a a []
All-nothing a = record { no_fault = record { out = refl; err = refl }; writes = record { out = Appends-nil a.out.written; err = Appends-nil a.err.written } }

-- a function that returned this stop
pub returns_stop : {T : Type 0} (run : Run) (r : Result T Stop) (s : Stop) (a b : Sinks) → IsErrAnd r (λ e. e ≡ s) → StopsAt run s a b → Does run r a b
returns_stop {T} run (Ok x) s a b h at = absurd h
returns_stop {T} run (Err e) s a b h at = subst (λ (t : Stop). StopsAt run t a b) (sym h) at

-- a function that wrote nothing and returned want of memory
pub memory_does : {T : Type 0} (run : Run) (r : Result T Stop) (a : Sinks) → IsErrAnd r (λ e. e ≡ stops.Memory) → Does run r a a
memory_does {T} run r a h = returns_stop run r stops.Memory a a h (nothing_does a run.pieces)

-- ---- pieces one after another
out_of-append : (ps qs : List Piece) → out_of (ps ++ qs) ≡ out_of ps ++ out_of qs
out_of-append [] qs = refl
out_of-append (ToOut bytes ∷ ps) qs = ap (λ bs. bytes ++ bs) (out_of-append ps qs) ∙ sym (append_assoc bytes (out_of ps) (out_of qs))
out_of-append (ToErr bytes ∷ ps) qs = out_of-append ps qs

err_of-append : (ps qs : List Piece) → err_of (ps ++ qs) ≡ err_of ps ++ err_of qs
err_of-append [] qs = refl
err_of-append (ToOut bytes ∷ ps) qs = err_of-append ps qs
err_of-append (ToErr bytes ∷ ps) qs = ap (λ bs. bytes ++ bs) (err_of-append ps qs) ∙ sym (append_assoc bytes (err_of ps) (err_of qs))

Writes-trans : (a b c : Sinks) (ps qs : List Piece) → Writes a b ps → Writes b c qs → Writes a c (ps ++ qs)
Writes-trans a b c ps qs p q =
    record {
      out = subst (λ (bs : List ℕ). Appends a.out.written c.out.written bs) (sym (out_of-append ps qs)) (Appends-trans a.out.written b.out.written c.out.written (out_of ps) (out_of qs) p.out q.out);
      err = subst (λ (bs : List ℕ). Appends a.err.written c.err.written bs) (sym (err_of-append ps qs)) (Appends-trans a.err.written b.err.written c.err.written (err_of ps) (err_of qs) p.err q.err);
    }

NoFault-trans : (a b c : Sinks) → NoFault a b → NoFault b c → NoFault a c
NoFault-trans a b c p q = record { out = q.out ∙ p.out; err = q.err ∙ p.err }

Rose-later : (a b c : Sinks) → NoFault a b → Rose b c → Rose a c
Rose-later a b c p r = elim r [ inl h ↦ inl (omega (arith, p.out)) | inr h ↦ inr (omega (arith, p.err)) ]

All-trans : (a b c : Sinks) (ps qs : List Piece) → All a b ps → All b c qs → All a c (ps ++ qs)
All-trans a b c ps qs p q = record { no_fault = NoFault-trans a b c p.no_fault q.no_fault; writes = Writes-trans a b c ps qs p.writes q.writes }

-- all of the first pieces, and then some of the others
Front-after : (a b c : Sinks) (ps qs : List Piece) → All a b ps → Front b c qs → Front a c (ps ++ qs)
Front-after a b c ps qs p q =
    record {
      no_fault = NoFault-trans a b c p.no_fault q.no_fault;
      front = ps ++ q.front;
      rest = q.rest;
      split = ap (λ xs. ps ++ xs) q.split ∙ sym (append_assoc ps q.front q.rest);
      writes = Writes-trans a b c ps q.front p.writes q.writes;
    }

CutShort-after : (a b c : Sinks) (ps qs : List Piece) → All a b ps → CutShort b c qs → CutShort a c (ps ++ qs)
CutShort-after a b c ps qs p q =
    record {
      rose = Rose-later a b c p.no_fault q.rose;
      front = ps ++ q.front;
      piece = q.piece;
      count = q.count;
      rest = q.rest;
      split = ap (λ xs. ps ++ xs) q.split ∙ sym (append_assoc ps q.front (q.piece ∷ q.rest));
      writes = subst
          (λ (xs : List Piece). Writes a c xs)
          (sym (append_assoc ps q.front (clip q.count q.piece ∷ [])))
          (Writes-trans a b c ps (q.front ++ clip q.count q.piece ∷ []) p.writes q.writes);
    }

-- some of the first pieces are some of all
Front-more : (a b : Sinks) (ps qs : List Piece) → Front a b ps → Front a b (ps ++ qs)
Front-more a b ps qs p =
    record {
      no_fault = p.no_fault;
      front = p.front;
      rest = p.rest ++ qs;
      split = ap (λ xs. xs ++ qs) p.split ∙ append_assoc p.front p.rest qs;
      writes = p.writes;
    }

CutShort-more : (a b : Sinks) (ps qs : List Piece) → CutShort a b ps → CutShort a b (ps ++ qs)
CutShort-more a b ps qs p =
    record {
      rose = p.rose;
      front = p.front;
      piece = p.piece;
      count = p.count;
      rest = p.rest ++ qs;
      split = ap (λ xs. xs ++ qs) p.split ∙ append_assoc p.front (p.piece ∷ p.rest) qs;
      writes = p.writes;
    }

-- ---- a list of lines
abbrev piece_of : Accepted → Piece
piece_of a = ToOut (line_of a)

-- those pieces were written, and these remain
pub record SoFar (whole : List Piece) (remaining : List Piece) (a b : Sinks) : Type 0 where
  pub printed : List Piece
  pub is : whole ≡ printed ++ remaining
  pub prints : All a b printed

pub so_far_nothing : (whole : List Piece) (a : Sinks) → SoFar whole whole a a
so_far_nothing whole a = record { printed = []; is = refl; prints = All-nothing a }

pub so_far_more : (whole : List Piece) (p : Piece) (ps : List Piece) (a b c : Sinks) → SoFar whole (p ∷ ps) a b → All b c (p ∷ []) → SoFar whole ps a c
so_far_more whole p ps a b c s d =
    record { printed = s.printed ++ p ∷ []; is = s.is ∙ sym (append_assoc s.printed (p ∷ []) ps); prints = All-trans a b c s.printed (p ∷ []) s.prints d }

pub so_far_end : (whole : List Piece) (a b : Sinks) → SoFar whole [] a b → All a b whole
so_far_end whole a b s = subst (λ (xs : List Piece). All a b xs) (sym (s.is ∙ append-nil s.printed)) s.prints

pub so_far_stopped : (whole : List Piece) (p : Piece) (ps : List Piece) (s : Stop) (a b c : Sinks) → SoFar whole (p ∷ ps) a b → StopsAt (record { pieces = p ∷ []; status = 0 }) s b c → StopsAt (record { pieces = whole; status = 0 }) s a c
so_far_stopped whole p ps (stops.Ended status.Refused) a b c so d = absurd (omega (arith, d.0))
so_far_stopped whole p ps (stops.Ended status.TooLong) a b c so d = absurd (omega (arith, d.0))
so_far_stopped whole p ps (stops.Ended status.ReadFault) a b c so d = absurd (omega (arith, d.0))
so_far_stopped whole p ps (stops.Ended status.Usage) a b c so d = absurd (omega (arith, d.0))
so_far_stopped whole p ps stops.Memory a b c so d =
    subst (λ (xs : List Piece). Front a c xs) (sym so.is) (Front-after a b c so.printed (p ∷ ps) so.prints (Front-more b c (p ∷ []) ps d))
so_far_stopped whole p ps stops.Write a b c so d =
    subst (λ (xs : List Piece). CutShort a c xs) (sym so.is) (CutShort-after a b c so.printed (p ∷ ps) so.prints (CutShort-more b c (p ∷ []) ps d))

-- the lines from an index on begin with the line there
lines_step : (list : List Accepted) (i : ℕ) (d : Accepted) → i < length list → map piece_of (drop i list) ≡ piece_of (get_or list i d) ∷ map piece_of (drop (i + 1) list)
lines_step list i d h = ap (λ xs. map piece_of xs) (drop_more list i d h)

pub lines_passed : (whole : List Piece) (list : List Accepted) (i : ℕ) (d : Accepted) (a b c : Sinks) → i < length list → d ≡ get_or list i d → SoFar whole (map piece_of (drop i list)) a b → All b c (piece_of d ∷ []) → SoFar whole (map piece_of (drop (i + 1) list)) a c
lines_passed whole list i d a b c h at so p =
    so_far_more whole (piece_of d) (map piece_of (drop (i + 1) list)) a b c
    (subst (λ (xs : List Piece). SoFar whole xs a b) (lines_step list i d h ∙ ap (λ (e : Accepted). piece_of e ∷ map piece_of (drop (i + 1) list)) (sym at)) so) p

pub lines_stopped : (whole : List Piece) (list : List Accepted) (i : ℕ) (d : Accepted) (s : Stop) (a b c : Sinks) → i < length list → d ≡ get_or list i d → SoFar whole (map piece_of (drop i list)) a b → StopsAt (told_all (d ∷ [])) s b c → StopsAt (record { pieces = whole; status = 0 }) s a c
lines_stopped whole list i d s a b c h at so p =
    so_far_stopped whole (piece_of d) (map piece_of (drop (i + 1) list)) s a b c
    (subst (λ (xs : List Piece). SoFar whole xs a b) (lines_step list i d h ∙ ap (λ (e : Accepted). piece_of e ∷ map piece_of (drop (i + 1) list)) (sym at)) so) p

-- ---- what a text gives
pub refused_does : {T : Type 0} (name text : List ℕ) (w : Result (List Accepted) Refusal) (refusal : Refusal) (n : ℕ) (r : Result T Stop) (a b : Sinks) → w ≡ Err refusal → refused_line text refusal ≡ n → Does (refused name n) r a b → Does (run_checked name text w) r a b
refused_does {T} name text w refusal n r a b h k d =
    subst (λ (v : Result (List Accepted) Refusal). Does (run_checked name text v) r a b) (sym h) (subst (λ (m : ℕ). Does (refused name m) r a b) (sym k) d)

pub accepted_does : {T : Type 0} (name text : List ℕ) (w : Result (List Accepted) Refusal) (list told : List Accepted) (r : Result T Stop) (a b : Sinks) → w ≡ Ok list → told ≡ list → Does (told_all told) r a b → Does (run_checked name text w) r a b
accepted_does {T} name text w list told r a b h k d =
    subst (λ (v : Result (List Accepted) Refusal). Does (run_checked name text v) r a b) (sym h) (subst (λ (l : List Accepted). Does (told_all l) r a b) k d)

-- ---- the answer
not_rose : (a b : Sinks) → NoFault a b → Rose a b → ⊥
not_rose a b calm (inl rose) = omega (arith, calm.out, rose)
not_rose a b calm (inr rose) = omega (arith, calm.err, rose)

answers_whole : (run : Run) (answer : ℕ) (a b : Sinks) → (answer ≡ 5 → ⊥) → (answer ≡ 6 → ⊥) → answer ≡ run.status → All a b run.pieces → Answers run answer a b
answers_whole run answer a b not_5 not_6 status all =
    record {
      write_fault = ((λ e. absurd (not_5 e)), (λ r. absurd (not_rose a b all.no_fault r)));
      cut = λ e. absurd (not_5 e);
      memory = λ e. absurd (not_6 e);
      status = λ n m. status;
      whole = λ n m. all.writes;
    }

code_not_5 : (s : Status) → code_of s ≡ 5 → ⊥
code_not_5 status.Refused e = omega arith
code_not_5 status.TooLong e = omega arith
code_not_5 status.ReadFault e = omega arith
code_not_5 status.Usage e = omega arith

code_not_6 : (s : Status) → code_of s ≡ 6 → ⊥
code_not_6 status.Refused e = omega arith
code_not_6 status.TooLong e = omega arith
code_not_6 status.ReadFault e = omega arith
code_not_6 status.Usage e = omega arith

pub answers_passed : (run : Run) (a b : Sinks) → run.status ≡ 0 → All a b run.pieces → Answers run 0 a b
answers_passed run a b e p = answers_whole run 0 a b (λ e. omega arith) (λ e. omega arith) (sym e) p

pub answers_stopped : (run : Run) (s : Stop) (a b : Sinks) → StopsAt run s a b → Answers run (stop_code s) a b
answers_stopped run (stops.Ended s) a b p = answers_whole run (code_of s) a b (code_not_5 s) (code_not_6 s) (sym p.0) p.1
answers_stopped run stops.Memory a b p =
    record {
      write_fault = ((λ e. absurd (omega (arith, e))), (λ r. absurd (not_rose a b p.no_fault r)));
      cut = λ e. absurd (omega (arith, e));
      memory = λ e. p;
      status = λ n m. absurd (m refl);
      whole = λ n m. absurd (m refl);
    }
answers_stopped run stops.Write a b p =
    record {
      write_fault = ((λ e. p.rose), (λ r. refl));
      cut = λ e. p;
      memory = λ e. absurd (omega (arith, e));
      status = λ n m. absurd (n refl);
      whole = λ n m. absurd (n refl);
    }
