-- How the logic stores methods.
use Rattle.std.proofs.Common.{◌≡◌, ◌≢◌, ℕ, List, refl, ap, arith}
use Rattle.std.specs.Prelude.{Option}
use Rattle.std.specs.Coded.{Coded, coded_ℕ, coded_list, coded_option, coded_bool}
use base.Stored.{Gv, gnil, gnum, gcons, num}
use Rattle.isa_outer.specs.Methods.{Method, Node, At, Match, Rule, Erule, Drule, Frule, Assumption, Simp, Split, Subst, Hypsubst, SafeStep, ClarifyStep, InstStep, Step, SlowStep, Clarify, Safe, Fast, Slow, Best, Blast, Iprover, Auto, Then, OrElse, Try, Plus}
use Rattle.isa_outer.specs.declared.method.SimpMode.{SimpMode}
use Rattle.isa_outer.specs.declared.method.Modifier.{Modifier}
use Rattle.isa_outer.specs.contracts.method.SimpMode as mode_row
use Rattle.isa_outer.specs.contracts.method.Modifier as modifier_row

abbrev head : Gv → Gv
head gnil = gnil
head (gnum n) = gnil
head (gcons a b) = a

abbrev tail : Gv → Gv
tail gnil = gnil
tail (gnum n) = gnil
tail (gcons a b) = b

apart : (m n : ℕ) {a b : Gv} → gcons (gnum m) a ≡ gcons (gnum n) b → m ≢ n → ⊥
apart m n p other = other (cc)

abbrev names : Coded (List (List ℕ))
names = coded_list (coded_list coded_ℕ)

abbrev modifiers : Coded (List Modifier)
modifiers = coded_list modifier_row.the_row.coded

abbrev mode : Coded (Option SimpMode)
mode = coded_option mode_row.the_row.coded

abbrev number : Coded (Option ℕ)
number = coded_option coded_ℕ

abbrev name : Coded (List ℕ)
name = coded_list coded_ℕ

abbrev tag : Node → ℕ
tag (Match a) = 0
tag (Rule a) = 1
tag (Erule a) = 2
tag (Drule a) = 3
tag (Frule a) = 4
tag Assumption = 5
tag (Simp a b) = 6
tag (Split a) = 7
tag (Subst a b c) = 8
tag (Hypsubst a) = 9
tag (SafeStep a) = 10
tag (ClarifyStep a) = 11
tag (InstStep a) = 12
tag (Step a) = 13
tag (SlowStep a) = 14
tag (Clarify a) = 15
tag (Safe a) = 16
tag (Fast a) = 17
tag (Slow a) = 18
tag (Best a) = 19
tag (Blast a) = 20
tag (Iprover a) = 21
tag (Auto a) = 22
tag (Then a b) = 23
tag (OrElse a b) = 24
tag (Try a) = 25
tag (Plus a) = 26

abbrev mutual
  pub method_code : Method → Gv
  method_code (At line node) = gcons (gnum line) (gcons (gnum (tag node)) (parts node))

  parts : Node → Gv
  parts (Match a) = names.code a
  parts (Rule a) = names.code a
  parts (Erule a) = names.code a
  parts (Drule a) = names.code a
  parts (Frule a) = names.code a
  parts Assumption = gnil
  parts (Simp a b) = gcons (mode.code a) (modifiers.code b)
  parts (Split a) = names.code a
  parts (Subst a b c) = gcons (coded_bool.code a) (gcons (number.code b) (name.code c))
  parts (Hypsubst a) = modifiers.code a
  parts (SafeStep a) = modifiers.code a
  parts (ClarifyStep a) = modifiers.code a
  parts (InstStep a) = modifiers.code a
  parts (Step a) = modifiers.code a
  parts (SlowStep a) = modifiers.code a
  parts (Clarify a) = modifiers.code a
  parts (Safe a) = modifiers.code a
  parts (Fast a) = modifiers.code a
  parts (Slow a) = modifiers.code a
  parts (Best a) = modifiers.code a
  parts (Blast a) = modifiers.code a
  parts (Iprover a) = modifiers.code a
  parts (Auto a) = modifiers.code a
  parts (Then a b) = gcons (method_code a) (method_code b)
  parts (OrElse a b) = gcons (method_code a) (method_code b)
  parts (Try a) = method_code a
  parts (Plus a) = method_code a

mutual
  pub method_inj : (x y : Method) → method_code x ≡ method_code y → x ≡ y
  method_inj (At k m) (At l n) e = λ i. At (ap (λ g. num (head g)) e i) (node_inj m n (ap (λ g. tail g) e) i)

  node_inj : (x y : Node) → gcons (gnum (tag x)) (parts x) ≡ gcons (gnum (tag y)) (parts y) → x ≡ y
  node_inj (Match a) (Match x) e = λ i. Match (names.inj a x (ap (λ g. tail g) e) i)
  node_inj (Rule a) (Rule x) e = λ i. Rule (names.inj a x (ap (λ g. tail g) e) i)
  node_inj (Erule a) (Erule x) e = λ i. Erule (names.inj a x (ap (λ g. tail g) e) i)
  node_inj (Drule a) (Drule x) e = λ i. Drule (names.inj a x (ap (λ g. tail g) e) i)
  node_inj (Frule a) (Frule x) e = λ i. Frule (names.inj a x (ap (λ g. tail g) e) i)
  node_inj Assumption Assumption e = refl
  node_inj (Simp a b) (Simp x y) e = λ i. Simp (mode.inj a x (ap (λ g. head (tail g)) e) i) (modifiers.inj b y (ap (λ g. tail (tail g)) e) i)
  node_inj (Split a) (Split x) e = λ i. Split (names.inj a x (ap (λ g. tail g) e) i)
  node_inj (Subst a b c) (Subst x y z) e = λ i. Subst (coded_bool.inj a x (ap (λ g. head (tail g)) e) i) (number.inj b y (ap (λ g. head (tail (tail g))) e) i) (name.inj c z (ap (λ g. tail (tail (tail g))) e) i)
  node_inj (Hypsubst a) (Hypsubst x) e = λ i. Hypsubst (modifiers.inj a x (ap (λ g. tail g) e) i)
  node_inj (SafeStep a) (SafeStep x) e = λ i. SafeStep (modifiers.inj a x (ap (λ g. tail g) e) i)
  node_inj (ClarifyStep a) (ClarifyStep x) e = λ i. ClarifyStep (modifiers.inj a x (ap (λ g. tail g) e) i)
  node_inj (InstStep a) (InstStep x) e = λ i. InstStep (modifiers.inj a x (ap (λ g. tail g) e) i)
  node_inj (Step a) (Step x) e = λ i. Step (modifiers.inj a x (ap (λ g. tail g) e) i)
  node_inj (SlowStep a) (SlowStep x) e = λ i. SlowStep (modifiers.inj a x (ap (λ g. tail g) e) i)
  node_inj (Clarify a) (Clarify x) e = λ i. Clarify (modifiers.inj a x (ap (λ g. tail g) e) i)
  node_inj (Safe a) (Safe x) e = λ i. Safe (modifiers.inj a x (ap (λ g. tail g) e) i)
  node_inj (Fast a) (Fast x) e = λ i. Fast (modifiers.inj a x (ap (λ g. tail g) e) i)
  node_inj (Slow a) (Slow x) e = λ i. Slow (modifiers.inj a x (ap (λ g. tail g) e) i)
  node_inj (Best a) (Best x) e = λ i. Best (modifiers.inj a x (ap (λ g. tail g) e) i)
  node_inj (Blast a) (Blast x) e = λ i. Blast (modifiers.inj a x (ap (λ g. tail g) e) i)
  node_inj (Iprover a) (Iprover x) e = λ i. Iprover (modifiers.inj a x (ap (λ g. tail g) e) i)
  node_inj (Auto a) (Auto x) e = λ i. Auto (modifiers.inj a x (ap (λ g. tail g) e) i)
  node_inj (Then a b) (Then x y) e = λ i. Then (method_inj a x (ap (λ g. head (tail g)) e) i) (method_inj b y (ap (λ g. tail (tail g)) e) i)
  node_inj (OrElse a b) (OrElse x y) e = λ i. OrElse (method_inj a x (ap (λ g. head (tail g)) e) i) (method_inj b y (ap (λ g. tail (tail g)) e) i)
  node_inj (Try a) (Try x) e = λ i. Try (method_inj a x (ap (λ g. tail g) e) i)
  node_inj (Plus a) (Plus x) e = λ i. Plus (method_inj a x (ap (λ g. tail g) e) i)
  node_inj x y e = absurd (apart (tag x) (tag y) e (omega arith))

abbrev pub coded_method : Coded Method
coded_method = record { code = method_code; inj = method_inj }
