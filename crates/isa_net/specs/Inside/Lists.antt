-- What is to be read, as the code holds it.
use Rattle.std.specs.Prelude.{ℕ, zero, suc, List, [], ◌∷◌, ◌++◌, Option, Some, None}
use Rattle.std.specs.Borrow.{Bor}
use Rattle.isa_terms.specs.Terms.{Tm, Const, Free, Unknown, Bound, Abs, App}
use Rattle.isa_net.specs.Words.{Item, Along, Over, overs, alongs}
use Rattle.isa_net.specs.declared.items.Items.{Items, End, Whole', More'}
use Rattle.isa_net.specs.declared.items.Front.{Front}

-- an argument by its number from the last one on
abbrev pub arg_at : ℕ → Tm → Tm
arg_at k (Const c T) = Const c T
arg_at k (Free x T) = Free x T
arg_at k (Unknown x i T) = Unknown x i T
arg_at k (Bound i) = Bound i
arg_at k (Abs x T b) = Abs x T b
arg_at zero (App f a) = a
arg_at (suc k) (App f a) = arg_at k f

-- so many last arguments
abbrev pub last_args : ℕ → Tm → List Tm
last_args zero t = []
last_args (suc k) t = arg_at k t ∷ last_args k t

abbrev pub items_in : Items → List Item
items_in End = []
items_in (Whole' t p rest) = Along t.now ∷ items_in rest
items_in (More' t args count p rest) = alongs (last_args args t.now) ++ (overs count ++ items_in rest)

abbrev pub item_of : Option (Bor Tm) → Item
item_of (Some t) = Along t.now
item_of None = Over

abbrev pub rest_of : Front → List Item
rest_of f = alongs (last_args f.args f.spine.now) ++ (overs f.overs ++ items_in f.rest.now)

abbrev pub items_of : Option Front → List Item
items_of None = []
items_of (Some f) = item_of f.item ∷ rest_of f
