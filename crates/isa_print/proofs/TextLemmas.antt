-- How implications are printed.
use Rattle.std.proofs.Common.{◌≡◌, ◌+◌, ◌<◌, ◌≤◌, List, length, drop, get_or, ap, ◌∙◌, true, sym, append_assoc, append-nil}
use Rattle.std.proofs.lemmas.List.{drop_more}
use Rattle.std.proofs.Math.ListN.{drop_of_length-le}
use Rattle.std.specs.Prelude.{ℕ, Bool, false, codes, ◌++◌, if◌then◌else◌}
use Rattle.isa_terms.specs.Terms.{Tm, App}
use Rattle.isa_print.specs.Text.{is_constant, parenthesized, prop_text, judgment_text, subgoal_text, subgoals_text, IsImplication}

pub is_implication : (c a b t : Tm) → t ≡ App (App c a) b → is_constant (codes "Pure.imp") c ≡ true → IsImplication a b t
unfolding prop_text
is_implication c a b t e h =
    record {
      text = λ j left. ap (λ u. prop_text j left u) e
          ∙ ap (λ (test : Bool). if test then parenthesized left (prop_text j true a ++ (codes " ==> " ++ prop_text j false b)) else judgment_text j (App (App c a) b)) h;
    }

subgoals_at : (j : List ℕ) (n : ℕ) (ts : List Tm) (i : ℕ) (d : Tm) → i < length ts → subgoals_text j n (drop i ts) ≡ subgoal_text j n (get_or ts i d) ++ subgoals_text j (n + 1) (drop (i + 1) ts)
unfolding subgoals_text
subgoals_at j n ts i d h = ap (λ us. subgoals_text j n us) (drop_more ts i d h)

-- one more subgoal
pub subgoals_more : (j : List ℕ) (ts : List Tm) (i : ℕ) (t : Tm) (whole text later : List ℕ) → i < length ts → t ≡ get_or ts i t → whole ≡ text ++ subgoals_text j (i + 1) (drop i ts) → later ≡ text ++ subgoal_text j (i + 1) t → whole ≡ later ++ subgoals_text j (i + 1 + 1) (drop (i + 1) ts)
subgoals_more j ts i t whole text later h at e f =
    e
    ∙ ap (λ xs. text ++ xs) (subgoals_at j (i + 1) ts i t h)
    ∙ ap (λ u. text ++ (subgoal_text j (i + 1) u ++ subgoals_text j (i + 1 + 1) (drop (i + 1) ts))) (sym at)
    ∙ sym (append_assoc text (subgoal_text j (i + 1) t) (subgoals_text j (i + 1 + 1) (drop (i + 1) ts)))
    ∙ ap (λ xs. xs ++ subgoals_text j (i + 1 + 1) (drop (i + 1) ts)) (sym f)

-- no more subgoal
pub subgoals_end : (j : List ℕ) (ts : List Tm) (i : ℕ) (whole text : List ℕ) → length ts ≤ i → whole ≡ text ++ subgoals_text j (i + 1) (drop i ts) → text ≡ whole
unfolding subgoals_text
subgoals_end j ts i whole text h e = sym (e ∙ ap (λ us. text ++ subgoals_text j (i + 1) us) (drop_of_length-le ts h) ∙ append-nil text)
