-- The printed text of terms, states and theorems: Isabelle's `?x.n` for unknowns, and application and `==>` as in the
-- Isabelle/Isar Reference Manual, chapter "Inner syntax"; the layout is this project's own.
use Rattle.std.specs.Prelude.{◌≡◌, ℕ, ◌+◌, Bool, true, false, if◌then◌else◌, List, [], ◌∷◌, ◌++◌, length, nat_eq, codes, decimal, Option, Some, None}
use Rattle.isa_terms.specs.Terms.{Tm, Const, Free, Unknown, Bound, Abs, App}
use Rattle.isa_terms.specs.Equal.{name_eq}

-- `?x`, or `?x.n` for a number n above 0
abbrev pub unknown_text : List ℕ → ℕ → List ℕ
unknown_text x n = if nat_eq n 0 then codes "?" ++ x else codes "?" ++ (x ++ (codes "." ++ decimal n))

abbrev pub parenthesized : Bool → List ℕ → List ℕ
parenthesized true text = codes "(" ++ (text ++ codes ")")
parenthesized false text = text

-- A name applied to its arguments, in parentheses where this is itself an argument. No binder is read, and none is printed.
unfoldable pub term_text : Bool → Tm → List ℕ
term_text argument (Const x T) = x
term_text argument (Free x T) = x
term_text argument (Unknown x n T) = unknown_text x n
term_text argument (Bound n) = []
term_text argument (Abs x T b) = []
term_text argument (App f a) = parenthesized argument (term_text false f ++ (codes " " ++ term_text true a))

-- whether it is the constant of that name
abbrev pub is_constant : List ℕ → Tm → Bool
is_constant name (Const x T) = name_eq x name
is_constant name _ = false

-- a proposition that is no `==>`, without the judgment of that name
abbrev pub judgment_text : List ℕ → Tm → List ℕ
judgment_text judgment (App f t) = if is_constant judgment f then term_text false t else term_text false (App f t)
judgment_text judgment t = term_text false t

-- a proposition, in parentheses where it is a `==>` to the left of a `==>`
unfoldable pub prop_text : List ℕ → Bool → Tm → List ℕ
prop_text judgment left (App (App c a) b) =
    if is_constant (codes "Pure.imp") c then parenthesized left (prop_text judgment true a ++ (codes " ==> " ++ prop_text judgment false b))
    else judgment_text judgment (App (App c a) b)
prop_text judgment left t = judgment_text judgment t

-- the line of subgoal n
unfoldable pub subgoal_text : List ℕ → ℕ → Tm → List ℕ
subgoal_text judgment n t = codes " " ++ (decimal n ++ (codes ". " ++ (prop_text judgment false t ++ codes "\n")))

-- the lines of subgoals, numbered from n on
unfoldable pub subgoals_text : List ℕ → ℕ → List Tm → List ℕ
subgoals_text judgment n [] = []
subgoals_text judgment n (t ∷ ts) = subgoal_text judgment n t ++ subgoals_text judgment (n + 1) ts

-- the line above n subgoals
abbrev pub count_text : ℕ → List ℕ
count_text n = codes "goal (" ++ (decimal n ++ (if nat_eq n 1 then codes " subgoal):\n" else codes " subgoals):\n"))

-- a state, by its subgoals
unfoldable pub state_text : List ℕ → List Tm → List ℕ
state_text judgment [] = codes "No subgoals!\n"
state_text judgment (t ∷ ts) = count_text (length (t ∷ ts)) ++ subgoals_text judgment 1 (t ∷ ts)

-- a blank and the name, where there is one
abbrev pub name_text : Option (List ℕ) → List ℕ
name_text None = []
name_text (Some name) = codes " " ++ name

-- a theorem, under its name where it has one
unfoldable pub theorem_text : List ℕ → Option (List ℕ) → Tm → List ℕ
theorem_text judgment name t = codes "theorem" ++ (name_text name ++ (codes ": " ++ (prop_text judgment false t ++ codes "\n")))

-- how `A ==> B` is printed
pub record IsImplication (A B t : Tm) : Type 0 where
  pub text : (judgment : List ℕ) (left : Bool) → prop_text judgment left t ≡ parenthesized left (prop_text judgment true A ++ (codes " ==> " ++ prop_text judgment false B))

-- how another proposition is printed
pub record IsOther (t : Tm) : Type 0 where
  pub text : (judgment : List ℕ) (left : Bool) → prop_text judgment left t ≡ judgment_text judgment t
