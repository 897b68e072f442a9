-- Worked examples: the definition computes its answers. New unknowns are numbered from 1.
use Rattle.std.specs.Prelude.{◌≡◌, ℕ, List, [], ◌∷◌, ◌++◌, codes, refl}
use Rattle.isa_terms.specs.Terms.{Tm, Const, Bound, Abs, App}
use Rattle.isa_unify.specs.declared.progress.Answer.{Answer}
use Rattle.isa_unify.specs.declared.progress.Answer.TheVariants.{Yes, No, Outside}
use Rattle.isa_unify.specs.Unification.{unify}
use Rattle.isa_unify.specs.Worked.{◌⇒◌, i, o, ta, c, d, e, g, h, Q, R, a, b, un, x, y, F, F2, G, G2, P, P2, All, K, put, put_type, unify_two}

-- an unknown and itself
pub same_unknown : unify_two x x ≡ Yes [] (put (codes "x") i x ∷ []) 1
unfolding unify
same_unknown = refl

-- an unknown and a term that has it
pub occurs : unify_two x (App g x) ≡ No
unfolding unify
occurs = refl

-- an unknown on the left
pub solved_left : unify_two x c ≡ Yes [] (put (codes "x") i c ∷ []) 1
unfolding unify
solved_left = refl

-- an unknown on the right
pub solved_right : unify_two c x ≡ Yes [] (put (codes "x") i c ∷ []) 1
unfolding unify
solved_right = refl

-- two unknowns become a new one with the name of the left one
pub two_unknowns : unify_two x y ≡ Yes [] (put (codes "x") i (un (codes "x") 1 i) ∷ put (codes "y") i (un (codes "x") 1 i) ∷ []) 2
unfolding unify
two_unknowns = refl

-- two constants
pub other_constants : unify_two c d ≡ No
unfolding unify
other_constants = refl

-- a constant and itself
pub same_constants : unify_two c c ≡ Yes [] ([]) 1
unfolding unify
same_constants = refl

-- an unknown on the other side loses a variable
pub pruned : unify_two (Abs (codes "x") i (Abs (codes "y") i (App F (Bound 1)))) (Abs (codes "x") i (Abs (codes "y") i (App g (App (App G2 (Bound 1)) (Bound 0))))) ≡ Yes [] (put (codes "F") (i ⇒ i) (Abs (codes "x") i (App g (App (un (codes "G") 1 (i ⇒ i)) (Bound 0)))) ∷ put (codes "G") (i ⇒ i ⇒ i) (Abs (codes "x") i (Abs (codes "y") i (App (un (codes "G") 1 (i ⇒ i)) (Bound 1)))) ∷ []) 2
unfolding unify
pruned = refl

-- an unknown on an unknown
pub no_pattern : unify_two (App P y) (App Q c) ≡ Outside
unfolding unify
no_pattern = refl

-- a clash behind a term that is no pattern
pub clash_first : unify_two (App (App R (App P y)) c) (App (App R (Const (codes "d") o)) e) ≡ No
unfolding unify
clash_first = refl

-- an unknown of a function type
pub function : unify_two F g ≡ Yes [] (put (codes "F") (i ⇒ i) g ∷ []) 1
unfolding unify
function = refl

-- an unknown that forgets its variable
pub vacuous : unify_two F (Abs (codes "x") i c) ≡ Yes [] (put (codes "F") (i ⇒ i) (Abs (codes "x") i c) ∷ []) 1
unfolding unify
vacuous = refl

-- a variable that stands twice
pub twice_used : unify_two F (Abs (codes "x") i (App (App h (Bound 0)) (Bound 0))) ≡ Yes [] (put (codes "F") (i ⇒ i) (Abs (codes "x") i (App (App h (Bound 0)) (Bound 0))) ∷ []) 1
unfolding unify
twice_used = refl

-- a function with one argument
pub partly_applied : unify_two F (App h c) ≡ Yes [] (put (codes "F") (i ⇒ i) (App h c) ∷ []) 1
unfolding unify
partly_applied = refl

-- an unknown on one variable twice
pub same_variable_twice : unify_two (Abs (codes "x") i (Abs (codes "y") i (App (App F2 (Bound 1)) (Bound 1)))) (Abs (codes "x") i (Abs (codes "y") i c)) ≡ Outside
unfolding unify
same_variable_twice = refl

-- an unknown on a constant
pub constant_argument : unify_two (Abs (codes "x") i (App (App F2 (Bound 0)) c)) (Abs (codes "x") i c) ≡ Outside
unfolding unify
constant_argument = refl

-- two variables in the other order
pub turned : unify_two F2 (Abs (codes "x") i (Abs (codes "y") i (App (App h (Bound 0)) (Bound 1)))) ≡ Yes [] (put (codes "F") (i ⇒ i ⇒ i) (Abs (codes "x") i (Abs (codes "y") i (App (App h (Bound 0)) (Bound 1)))) ∷ []) 1
unfolding unify
turned = refl

-- an unknown on two variables in the other order
pub turned_unknown : unify_two (Abs (codes "x") i (Abs (codes "y") i (App (App F2 (Bound 0)) (Bound 1)))) h ≡ Yes [] (put (codes "F") (i ⇒ i ⇒ i) (Abs (codes "y") i (Abs (codes "x") i (App (App h (Bound 0)) (Bound 1)))) ∷ []) 1
unfolding unify
turned_unknown = refl

-- a variable that the unknown does not see
pub escapes : unify_two (Abs (codes "x") i y) (Abs (codes "x") i (Bound 0)) ≡ No
unfolding unify
escapes = refl

-- one of two variables is not seen
pub escapes_partly : unify_two (Abs (codes "x") i (Abs (codes "y") i (App F (Bound 1)))) (Abs (codes "x") i (Abs (codes "y") i (App (App h (Bound 0)) (Bound 1)))) ≡ No
unfolding unify
escapes_partly = refl

-- a variable bound in the term is kept, one outside is lost
pub pruned_below : unify_two (Abs (codes "x") i (un (codes "S") 0 o)) (Abs (codes "x") i (App All (Abs (codes "z") i (App (App P2 (Bound 0)) (Bound 1))))) ≡ Yes [] (put (codes "S") o (App All (un (codes "P") 1 (i ⇒ o))) ∷ put (codes "P") (i ⇒ i ⇒ o) (Abs (codes "z") i (Abs (codes "x") i (App (un (codes "P") 1 (i ⇒ o)) (Bound 1)))) ∷ []) 2
unfolding unify
pruned_below = refl

-- an unknown that keeps no variable
pub pruned_whole : unify_two (Abs (codes "x") i (un (codes "S") 0 o)) (Abs (codes "x") i (App All (App P2 (Bound 0)))) ≡ Yes [] (put (codes "S") o (App All (un (codes "P") 1 (i ⇒ o))) ∷ put (codes "P") (i ⇒ i ⇒ o) (Abs (codes "x") i (un (codes "P") 1 (i ⇒ o))) ∷ []) 2
unfolding unify
pruned_whole = refl

-- an unknown on two variables and on the turned ones
pub no_agreement : unify_two F2 (Abs (codes "x") i (Abs (codes "y") i (App (App F2 (Bound 0)) (Bound 1)))) ≡ Yes [] (put (codes "F") (i ⇒ i ⇒ i) (Abs (codes "x") i (Abs (codes "y") i (un (codes "F") 1 i))) ∷ []) 2
unfolding unify
no_agreement = refl

-- an unknown keeps the places that agree
pub some_agreement : unify_two (Abs (codes "x") i (Abs (codes "y") i (Abs (codes "z") i (App (App F2 (Bound 2)) (Bound 1))))) (Abs (codes "x") i (Abs (codes "y") i (Abs (codes "z") i (App (App F2 (Bound 2)) (Bound 0))))) ≡ Yes [] (put (codes "F") (i ⇒ i ⇒ i) (Abs (codes "x") i (Abs (codes "y") i (App (un (codes "F") 1 (i ⇒ i)) (Bound 1)))) ∷ []) 2
unfolding unify
some_agreement = refl

-- two unknowns without a common variable
pub none_shared : unify_two (Abs (codes "x") i (Abs (codes "y") i (App F (Bound 1)))) (Abs (codes "x") i (Abs (codes "y") i (App G (Bound 0)))) ≡ Yes [] (put (codes "F") (i ⇒ i) (Abs (codes "x") i (un (codes "F") 1 i)) ∷ put (codes "G") (i ⇒ i) (Abs (codes "y") i (un (codes "F") 1 i)) ∷ []) 2
unfolding unify
none_shared = refl

-- two unknowns on the same variables, in the order of the left one
pub all_shared : unify_two F2 (Abs (codes "x") i (Abs (codes "y") i (App (App G2 (Bound 0)) (Bound 1)))) ≡ Yes [] (put (codes "F") (i ⇒ i ⇒ i) (un (codes "F") 1 (i ⇒ i ⇒ i)) ∷ put (codes "G") (i ⇒ i ⇒ i) (Abs (codes "y") i (Abs (codes "x") i (App (App (un (codes "F") 1 (i ⇒ i ⇒ i)) (Bound 0)) (Bound 1)))) ∷ []) 2
unfolding unify
all_shared = refl

-- types that unify only inside
pub deep_types : unify_two (App (Const (codes "K") (ta ⇒ o)) (un (codes "z") 0 ta)) (App (Const (codes "K") (i ⇒ o)) c) ≡ Yes (put_type (codes "'a") i ∷ []) (put (codes "z") ta c ∷ []) 1
unfolding unify
deep_types = refl

-- types that clash only inside
pub deep_clash_of_types : unify_two (App (Const (codes "K") (i ⇒ o)) c) (App (Const (codes "K") (o ⇒ o)) (Const (codes "d") o)) ≡ No
unfolding unify
deep_clash_of_types = refl

-- an unknown whose type is an unknown
pub types_first : unify_two (un (codes "z") 0 ta) c ≡ Yes (put_type (codes "'a") i ∷ []) (put (codes "z") ta c ∷ []) 1
unfolding unify
types_first = refl

-- terms of other types
pub types_clash : unify_two c Q ≡ No
unfolding unify
types_clash = refl

-- arguments below flexible heads are no places
pub flexible_is_no_clash : unify_two (App P c) (App P d) ≡ Outside
unfolding unify
flexible_is_no_clash = refl

-- a clash beside such a place
pub clash_beside_flexible : unify_two (App (App R (App P c)) c) (App (App R (App P d)) d) ≡ No
unfolding unify
clash_beside_flexible = refl

-- an unknown against two constants
pub solved_twice : unify_two (App (App h x) x) (App (App h c) d) ≡ No
unfolding unify
solved_twice = refl

-- an unknown against one constant twice
pub solved_once : unify_two (App (App h x) x) (App (App h c) c) ≡ Yes [] (put (codes "x") i c ∷ []) 1
unfolding unify
solved_once = refl

-- an unknown against a term and back
pub crossed : unify_two (App (App h x) (App g y)) (App (App h (App g y)) x) ≡ Yes [] (put (codes "x") i (App g y) ∷ put (codes "y") i y ∷ []) 1
unfolding unify
crossed = refl

-- two unknowns crossed
pub crossed_unknowns : unify_two (App (App h x) y) (App (App h y) x) ≡ Yes [] (put (codes "x") i (un (codes "x") 1 i) ∷ put (codes "y") i (un (codes "x") 1 i) ∷ []) 2
unfolding unify
crossed_unknowns = refl

-- an occurrence that a solution brings
pub occurs_late : unify_two (App (App h x) y) (App (App h (App g y)) (App g x)) ≡ No
unfolding unify
occurs_late = refl

-- an abstraction against an unknown gives its own name
pub single_name : unify_two (Abs (codes "z") i (App (App h (Bound 0)) (Bound 0))) F ≡ Yes [] (put (codes "F") (i ⇒ i) (Abs (codes "z") i (App (App h (Bound 0)) (Bound 0))) ∷ []) 1
unfolding unify
single_name = refl

-- of two abstractions the left one gives the name
pub left_name : unify_two (Abs (codes "p") i (Abs (codes "q") i (App F (Bound 1)))) (Abs (codes "r") i (Abs (codes "s") i (App (App h (Bound 1)) (Bound 1)))) ≡ Yes [] (put (codes "F") (i ⇒ i) (Abs (codes "p") i (App (App h (Bound 0)) (Bound 0))) ∷ []) 1
unfolding unify
left_name = refl

-- a place of the term is no pattern
pub stray_inside : unify_two y (App g (App F c)) ≡ Outside
unfolding unify
stray_inside = refl

-- the unknown itself on a constant
pub stray_itself : unify_two F (Abs (codes "x") i (App g (App F c))) ≡ Outside
unfolding unify
stray_itself = refl

-- the unknown itself on variables
pub occurs_on_variables : unify_two F (Abs (codes "x") i (App g (App F (Bound 0)))) ≡ No
unfolding unify
occurs_on_variables = refl

-- the first place decides: outside
pub stray_then_occurs : unify_two x (App (App h (App F c)) x) ≡ Outside
unfolding unify
stray_then_occurs = refl

-- the first place decides: no
pub occurs_then_stray : unify_two x (App (App h x) (App F c)) ≡ No
unfolding unify
occurs_then_stray = refl

-- a variable that is not seen, and then a place that is no pattern
pub variable_then_stray : unify_two (Abs (codes "x") i y) (Abs (codes "x") i (App (App h (Bound 0)) (App F c))) ≡ No
unfolding unify
variable_then_stray = refl

-- the other order
pub stray_then_variable : unify_two (Abs (codes "x") i y) (Abs (codes "x") i (App (App h (App F c)) (Bound 0))) ≡ Outside
unfolding unify
stray_then_variable = refl

-- a free variable and itself
pub same_free : unify_two a a ≡ Yes [] ([]) 1
unfolding unify
same_free = refl

-- two free variables
pub other_free : unify_two a b ≡ No
unfolding unify
other_free = refl

-- a bound variable and itself
pub same_bound : unify_two (Abs (codes "x") i (Bound 0)) (Abs (codes "y") i (Bound 0)) ≡ Yes [] ([]) 1
unfolding unify
same_bound = refl

-- two bound variables
pub other_bound : unify_two (Abs (codes "x") i (Abs (codes "y") i (Bound 0))) (Abs (codes "x") i (Abs (codes "y") i (Bound 1))) ≡ No
unfolding unify
other_bound = refl

-- a bound variable as head
pub bound_head : unify_two (Abs (codes "f") (i ⇒ i) (App (Bound 0) x)) (Abs (codes "f") (i ⇒ i) (App (Bound 0) c)) ≡ Yes [] (put (codes "x") i c ∷ []) 1
unfolding unify
bound_head = refl

-- an unknown against an abstraction as argument
pub eta_short : unify_two (App K (Abs (codes "x") i c)) (App K F) ≡ Yes [] (put (codes "F") (i ⇒ i) (Abs (codes "x") i c) ∷ []) 1
unfolding unify
eta_short = refl

-- one head with other numbers of arguments
pub other_numbers : unify_two (App (Const (codes "k") (i ⇒ i ⇒ i)) c) (Const (codes "k") (i ⇒ i)) ≡ No
unfolding unify
other_numbers = refl

-- a table of pairs, by the letters of their answers

pub letter : Answer → List ℕ
letter (Yes ts fs n) = codes "Y"
letter No = codes "N"
letter Outside = codes "O"

pub letters : Tm → List Tm → List ℕ
unfolding unify letter
letters t [] = []
letters t (u ∷ us) = letter (unify_two t u) ++ letters t us

pub rights : List Tm
rights =
    h ∷
    (Abs (codes "x") i (Abs (codes "y") i (App (App h (Bound 0)) (Bound 1)))) ∷
    (Abs (codes "x") i (Abs (codes "y") i c)) ∷
    (Abs (codes "x") i (Abs (codes "y") i (App g (App (App G2 (Bound 1)) (Bound 0))))) ∷
    (Abs (codes "x") i (Abs (codes "y") i (App (App h (App (App G2 (Bound 0)) (Bound 1))) d))) ∷
    (Abs (codes "x") i (Abs (codes "y") i (App G (Bound 0)))) ∷
    (Abs (codes "x") i (Abs (codes "y") i (App (App h (App g (Bound 1))) c))) ∷ []

pub forgets_second : letters (Abs (codes "x") i (Abs (codes "y") i (App F (Bound 1)))) rights ≡ codes "NNYYYYY"
unfolding letters rights
forgets_second = refl

pub both_variables : letters F2 rights ≡ codes "YYYYYYY"
unfolding letters rights
both_variables = refl

pub both_turned : letters (Abs (codes "x") i (Abs (codes "y") i (App (App F2 (Bound 0)) (Bound 1)))) rights ≡ codes "YYYYYYY"
unfolding letters rights
both_turned = refl

pub no_variable : letters (Abs (codes "x") i (Abs (codes "y") i (un (codes "z") 0 i))) rights ≡ codes "NNYYYYN"
unfolding letters rights
no_variable = refl

pub same_unknown_twice : letters (Abs (codes "x") i (Abs (codes "y") i (App (App h (App F (Bound 1))) (App F (Bound 0))))) rights ≡ codes "YNNNYYN"
unfolding letters rights
same_unknown_twice = refl

pub one_variable_twice : letters (Abs (codes "x") i (Abs (codes "y") i (App (App F2 (Bound 1)) (Bound 1)))) rights ≡ codes "OOOOOOO"
unfolding letters rights
one_variable_twice = refl

pub constant_beside : letters (Abs (codes "x") i (Abs (codes "y") i (App (App h (App (App F2 (Bound 1)) c)) c))) rights ≡ codes "NNNNNOO"
unfolding letters rights
constant_beside = refl

pub variable_and_constant : letters (Abs (codes "x") i (Abs (codes "y") i (App (App h (App F (Bound 1))) c))) rights ≡ codes "NNNNNYY"
unfolding letters rights
variable_and_constant = refl
