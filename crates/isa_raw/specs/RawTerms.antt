-- Terms as a text gives them: names are not resolved, and types stand only where the text writes them.
-- Source: preterms of Isabelle (The Isabelle/Isar Implementation Manual, "Syntax phases"; Isabelle's `Type_Infer`).
use Rattle.std.specs.Prelude.{ℕ, ◌+◌, List, Option}
use Rattle.isa_terms.specs.Types.{Ty}

-- a name; the unknown `?x`; a constant that notation stands for; `t :: T`; `%x. t` with the variable's type where it is given; `f a`
pub data Raw : Type 0 where
  RawName : (name : List ℕ) → Raw
  RawUnknown : (name : List ℕ) → Raw
  RawConst : (name : List ℕ) → Raw
  RawTyped : (body : Raw) (typ : Ty) → Raw
  RawAbs : (name : List ℕ) (typ : Option Ty) (body : Raw) → Raw
  RawApp : (fun : Raw) (arg : Raw) → Raw

-- how many nodes it has
abbrev pub raw_size : Raw → ℕ
raw_size (RawName x) = 1
raw_size (RawUnknown x) = 1
raw_size (RawConst c) = 1
raw_size (RawTyped r T) = raw_size r + 1
raw_size (RawAbs x o r) = raw_size r + 1
raw_size (RawApp f a) = raw_size f + raw_size a + 1
