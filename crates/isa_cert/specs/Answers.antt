-- How what a call answers agrees with what is defined. Want of memory alone is free.
use Rattle.std.specs.Prelude.{◌≡◌, List, ℕ, Bool, true, false, Option, Some, None, Result, Ok, Err}
use Rattle.isa_cert.specs.declared.fail.LineFail.{LineFail}
use Rattle.isa_cert.specs.declared.fail.LineFail.TheVariants as fail
use Rattle.isa_cert.specs.Checking.{Fault, Form, Typed, Step}

-- what is read is what is defined, and words of none of the forms are refused
abbrev pub Reads : {A : Type 0} → Result A LineFail → Option A → Type 0
Reads (Ok a) wanted = wanted ≡ Some a
Reads (Err fail.Form) wanted = wanted ≡ None
Reads (Err fail.Typed) wanted = ⊥
Reads (Err fail.Step) wanted = ⊥
Reads (Err fail.Memory) wanted = Unit {0}

-- the same, and these words are left
abbrev pub ReadsNext : {A : Type 0} → Result A LineFail → List (List ℕ) → Option (A × List (List ℕ)) → Type 0
ReadsNext (Ok a) later wanted = wanted ≡ Some (a, later)
ReadsNext (Err fail.Form) later wanted = wanted ≡ None
ReadsNext (Err fail.Typed) later wanted = ⊥
ReadsNext (Err fail.Step) later wanted = ⊥
ReadsNext (Err fail.Memory) later wanted = Unit {0}

-- the same, of words that are all read
abbrev pub ReadsAll : {A B : Type 0} → Result A LineFail → (A → B) → Option B → Type 0
ReadsAll (Ok a) made wanted = wanted ≡ Some (made a)
ReadsAll (Err fail.Form) made wanted = wanted ≡ None
ReadsAll (Err fail.Typed) made wanted = ⊥
ReadsAll (Err fail.Step) made wanted = ⊥
ReadsAll (Err fail.Memory) made wanted = Unit {0}

-- what is made is what is defined, and the fault is the defined one
abbrev pub Makes : {A : Type 0} → Result A LineFail → Result A Fault → Type 0
Makes (Ok a) wanted = wanted ≡ Ok a
Makes (Err fail.Form) wanted = wanted ≡ Err Form
Makes (Err fail.Typed) wanted = wanted ≡ Err Typed
Makes (Err fail.Step) wanted = wanted ≡ Err Step
Makes (Err fail.Memory) wanted = Unit {0}

-- the same, of what a value becomes
abbrev pub Becomes : {A B : Type 0} → Result A LineFail → B → Result B Fault → Type 0
Becomes (Ok done) later wanted = wanted ≡ Ok later
Becomes (Err fail.Form) later wanted = wanted ≡ Err Form
Becomes (Err fail.Typed) later wanted = wanted ≡ Err Typed
Becomes (Err fail.Step) later wanted = wanted ≡ Err Step
Becomes (Err fail.Memory) later wanted = Unit {0}

-- the same, with what the answer tells besides
abbrev pub BecomesWith : {A B : Type 0} → Result A LineFail → B → Result (B × A) Fault → Type 0
BecomesWith (Ok a) later wanted = wanted ≡ Ok (later, a)
BecomesWith (Err fail.Form) later wanted = wanted ≡ Err Form
BecomesWith (Err fail.Typed) later wanted = wanted ≡ Err Typed
BecomesWith (Err fail.Step) later wanted = wanted ≡ Err Step
BecomesWith (Err fail.Memory) later wanted = Unit {0}

-- a test of types
abbrev pub Checks : Result (Unit {0}) LineFail → Bool → Type 0
Checks (Ok done) wanted = wanted ≡ true
Checks (Err fail.Form) wanted = ⊥
Checks (Err fail.Typed) wanted = wanted ≡ false
Checks (Err fail.Step) wanted = ⊥
Checks (Err fail.Memory) wanted = Unit {0}
