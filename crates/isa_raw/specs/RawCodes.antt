-- How the logic stores raw terms.
use Rattle.std.proofs.Common.{◌≡◌, ◌≢◌, ℕ, List, Option, refl, ap, arith}
use Rattle.std.specs.Coded.{Coded, coded_ℕ, coded_list, coded_option}
use base.Stored.{Gv, gnil, gnum, gcons, num}
use Rattle.isa_terms.specs.Types.{Ty}
use Rattle.isa_terms.specs.Codes.{coded_ty}
use Rattle.isa_raw.specs.RawTerms.{Raw, RawName, RawUnknown, RawConst, RawTyped, RawAbs, RawApp}

abbrev head : Gv → Gv
head gnil = gnil
head (gnum n) = gnil
head (gcons a b) = a

abbrev tail : Gv → Gv
tail gnil = gnil
tail (gnum n) = gnil
tail (gcons a b) = b

apart : (m n : ℕ) {a b : Gv} → gcons (gnum m) a ≡ gcons (gnum n) b → m ≢ n → ⊥
apart m n p other = other (cc)

abbrev coded_name : Coded (List ℕ)
coded_name = coded_list coded_ℕ

abbrev coded_typ_or_none : Coded (Option Ty)
coded_typ_or_none = coded_option coded_ty

abbrev pub raw_code : Raw → Gv
raw_code (RawName a0) = gcons (gnum 0) (coded_name.code a0)
raw_code (RawUnknown a0) = gcons (gnum 1) (coded_name.code a0)
raw_code (RawConst a0) = gcons (gnum 2) (coded_name.code a0)
raw_code (RawTyped a0 a1) = gcons (gnum 3) (gcons (raw_code a0) (coded_ty.code a1))
raw_code (RawAbs a0 a1 a2) = gcons (gnum 4) (gcons (coded_name.code a0) (gcons (coded_typ_or_none.code a1) (raw_code a2)))
raw_code (RawApp a0 a1) = gcons (gnum 5) (gcons (raw_code a0) (raw_code a1))

pub raw_inj : (x y : Raw) → raw_code x ≡ raw_code y → x ≡ y
raw_inj (RawName a0) (RawName b0) e = λ i. RawName (coded_name.inj a0 b0 (ap (λ g. tail g) e) i)
raw_inj (RawName a0) (RawUnknown b0) e = absurd (apart 0 1 e (omega arith))
raw_inj (RawName a0) (RawConst b0) e = absurd (apart 0 2 e (omega arith))
raw_inj (RawName a0) (RawTyped b0 b1) e = absurd (apart 0 3 e (omega arith))
raw_inj (RawName a0) (RawAbs b0 b1 b2) e = absurd (apart 0 4 e (omega arith))
raw_inj (RawName a0) (RawApp b0 b1) e = absurd (apart 0 5 e (omega arith))
raw_inj (RawUnknown a0) (RawName b0) e = absurd (apart 1 0 e (omega arith))
raw_inj (RawUnknown a0) (RawUnknown b0) e = λ i. RawUnknown (coded_name.inj a0 b0 (ap (λ g. tail g) e) i)
raw_inj (RawUnknown a0) (RawConst b0) e = absurd (apart 1 2 e (omega arith))
raw_inj (RawUnknown a0) (RawTyped b0 b1) e = absurd (apart 1 3 e (omega arith))
raw_inj (RawUnknown a0) (RawAbs b0 b1 b2) e = absurd (apart 1 4 e (omega arith))
raw_inj (RawUnknown a0) (RawApp b0 b1) e = absurd (apart 1 5 e (omega arith))
raw_inj (RawConst a0) (RawName b0) e = absurd (apart 2 0 e (omega arith))
raw_inj (RawConst a0) (RawUnknown b0) e = absurd (apart 2 1 e (omega arith))
raw_inj (RawConst a0) (RawConst b0) e = λ i. RawConst (coded_name.inj a0 b0 (ap (λ g. tail g) e) i)
raw_inj (RawConst a0) (RawTyped b0 b1) e = absurd (apart 2 3 e (omega arith))
raw_inj (RawConst a0) (RawAbs b0 b1 b2) e = absurd (apart 2 4 e (omega arith))
raw_inj (RawConst a0) (RawApp b0 b1) e = absurd (apart 2 5 e (omega arith))
raw_inj (RawTyped a0 a1) (RawName b0) e = absurd (apart 3 0 e (omega arith))
raw_inj (RawTyped a0 a1) (RawUnknown b0) e = absurd (apart 3 1 e (omega arith))
raw_inj (RawTyped a0 a1) (RawConst b0) e = absurd (apart 3 2 e (omega arith))
raw_inj (RawTyped a0 a1) (RawTyped b0 b1) e = λ i. RawTyped (raw_inj a0 b0 (ap (λ g. head (tail g)) e) i) (coded_ty.inj a1 b1 (ap (λ g. tail (tail g)) e) i)
raw_inj (RawTyped a0 a1) (RawAbs b0 b1 b2) e = absurd (apart 3 4 e (omega arith))
raw_inj (RawTyped a0 a1) (RawApp b0 b1) e = absurd (apart 3 5 e (omega arith))
raw_inj (RawAbs a0 a1 a2) (RawName b0) e = absurd (apart 4 0 e (omega arith))
raw_inj (RawAbs a0 a1 a2) (RawUnknown b0) e = absurd (apart 4 1 e (omega arith))
raw_inj (RawAbs a0 a1 a2) (RawConst b0) e = absurd (apart 4 2 e (omega arith))
raw_inj (RawAbs a0 a1 a2) (RawTyped b0 b1) e = absurd (apart 4 3 e (omega arith))
raw_inj (RawAbs a0 a1 a2) (RawAbs b0 b1 b2) e = λ i. RawAbs (coded_name.inj a0 b0 (ap (λ g. head (tail g)) e) i) (coded_typ_or_none.inj a1 b1 (ap (λ g. head (tail (tail g))) e) i) (raw_inj a2 b2 (ap (λ g. tail (tail (tail g))) e) i)
raw_inj (RawAbs a0 a1 a2) (RawApp b0 b1) e = absurd (apart 4 5 e (omega arith))
raw_inj (RawApp a0 a1) (RawName b0) e = absurd (apart 5 0 e (omega arith))
raw_inj (RawApp a0 a1) (RawUnknown b0) e = absurd (apart 5 1 e (omega arith))
raw_inj (RawApp a0 a1) (RawConst b0) e = absurd (apart 5 2 e (omega arith))
raw_inj (RawApp a0 a1) (RawTyped b0 b1) e = absurd (apart 5 3 e (omega arith))
raw_inj (RawApp a0 a1) (RawAbs b0 b1 b2) e = absurd (apart 5 4 e (omega arith))
raw_inj (RawApp a0 a1) (RawApp b0 b1) e = λ i. RawApp (raw_inj a0 b0 (ap (λ g. head (tail g)) e) i) (raw_inj a1 b1 (ap (λ g. tail (tail g)) e) i)

abbrev pub coded_raw : Coded Raw
coded_raw = record { code = raw_code; inj = raw_inj }
