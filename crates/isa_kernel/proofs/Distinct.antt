-- Entries of which none stands twice: how they grow, and what a join with a longer base is.
use Rattle.std.proofs.Common.{◌≡◌, ℕ, List, [], ◌∷◌, ◌++◌, map, Bool, true, false, cond, ◌||◌, append-nil, append_assoc, refl, sym, ap, ◌∙◌, subst}
use Rattle.isa_terms.specs.Terms.{Tm}
use Rattle.isa_kernel.specs.declared.axioms.NamedProp.{NamedProp}
use Rattle.isa_kernel.specs.declared.base.BaseEntry.{BaseEntry}
use Rattle.isa_kernel.specs.declared.base.BaseEntry.TheVariants.{Axiom, Cite}
use Rattle.isa_kernel.specs.Axioms.{axioms_of, same_entry, has_entry, missing_entries, joined_bases, AreAmong}
use Rattle.isa_kernel.specs.Distinct.{AreOther, AreDistinct, IsPrefix}
use Rattle.isa_kernel.proofs.Members.{or_false}
use Rattle.isa_kernel.proofs.Bases.{among_itself}

or_both : (a b : Bool) → a ≡ false → b ≡ false → (a || b) ≡ false
or_both a b e f = ap (λ x. x || b) e ∙ f

-- ---- one more entry
other_push : (x e : BaseEntry) (es : List BaseEntry) → AreOther x es → same_entry x e ≡ false → AreOther x (es ++ e ∷ [])
other_push x e [] o s = (s, tt)
other_push x e (f ∷ es) o s = (o.0, other_push x e es o.1 s)

pub distinct_push : (es : List BaseEntry) (e : BaseEntry) → AreDistinct es → has_entry es e ≡ false → AreDistinct (es ++ e ∷ [])
distinct_push [] e d h = (tt, tt)
distinct_push (x ∷ es) e d h = let p = or_false (same_entry x e) (has_entry es e) h in (other_push x e es d.0 p.0, distinct_push es e d.1 p.1)

other_at : (x e : BaseEntry) (xs ys : List BaseEntry) → AreOther x (xs ++ e ∷ ys) → same_entry x e ≡ false
other_at x e [] ys o = o.0
other_at x e (f ∷ xs) ys o = other_at x e xs ys o.1

-- an entry is none of those before it
pub distinct_new : (xs ys : List BaseEntry) (e : BaseEntry) → AreDistinct (xs ++ e ∷ ys) → has_entry xs e ≡ false
distinct_new [] ys e d = refl
distinct_new (x ∷ xs) ys e d = or_both (same_entry x e) (has_entry xs e) (other_at x e xs ys d.0) (distinct_new xs ys e d.1)

-- ---- the entries that are missing
other_there : (x e : BaseEntry) (es : List BaseEntry) (b : Bool) → same_entry x e ≡ false → AreOther x es → AreOther x (cond b es (e ∷ es))
other_there x e es true h o = o
other_there x e es false h o = (h, o)

other_missing : (x : BaseEntry) (known es : List BaseEntry) → AreOther x es → AreOther x (missing_entries known es)
other_missing x known [] o = tt
other_missing x known (e ∷ es) o = other_there x e (missing_entries known es) (has_entry known e) o.0 (other_missing x known es o.1)

distinct_there : (e : BaseEntry) (es : List BaseEntry) (b : Bool) → AreOther e es → AreDistinct es → AreDistinct (cond b es (e ∷ es))
distinct_there e es true o d = d
distinct_there e es false o d = (o, d)

pub missing_distinct : (known es : List BaseEntry) → AreDistinct es → AreDistinct (missing_entries known es)
missing_distinct known [] d = tt
missing_distinct known (e ∷ es) d = distinct_there e (missing_entries known es) (has_entry known e) (other_missing e known es d.0) (missing_distinct known es d.1)

-- each of the entries is none of the known ones
abbrev AreNew : List BaseEntry → List BaseEntry → Type 0
AreNew known [] = Unit {0}
AreNew known (e ∷ es) = (has_entry known e ≡ false) × AreNew known es

new_there : (known es : List BaseEntry) (e : BaseEntry) (b : Bool) → has_entry known e ≡ b → AreNew known es → AreNew known (cond b es (e ∷ es))
new_there known es e true h n = n
new_there known es e false h n = (h, n)

missing_new : (known es : List BaseEntry) → AreNew known (missing_entries known es)
missing_new known [] = tt
missing_new known (e ∷ es) = new_there known (missing_entries known es) e (has_entry known e) refl (missing_new known es)

other_append : (x : BaseEntry) (xs ys : List BaseEntry) → AreOther x xs → AreOther x ys → AreOther x (xs ++ ys)
other_append x [] ys o p = p
other_append x (f ∷ xs) ys o p = (o.0, other_append x xs ys o.1 p)

new_head : (x : BaseEntry) (xs ys : List BaseEntry) → AreNew (x ∷ xs) ys → AreOther x ys
new_head x xs [] n = tt
new_head x xs (y ∷ ys) n = ((or_false (same_entry x y) (has_entry xs y) n.0).0, new_head x xs ys n.1)

new_tail : (x : BaseEntry) (xs ys : List BaseEntry) → AreNew (x ∷ xs) ys → AreNew xs ys
new_tail x xs [] n = tt
new_tail x xs (y ∷ ys) n = ((or_false (same_entry x y) (has_entry xs y) n.0).1, new_tail x xs ys n.1)

append_distinct : (xs ys : List BaseEntry) → AreDistinct xs → AreDistinct ys → AreNew xs ys → AreDistinct (xs ++ ys)
append_distinct [] ys d e n = e
append_distinct (x ∷ xs) ys d e n = (other_append x xs ys d.0 (new_head x xs ys n), append_distinct xs ys d.1 e (new_tail x xs ys n))

pub joined_distinct : (bs cs : List BaseEntry) → AreDistinct bs → AreDistinct cs → AreDistinct (joined_bases bs cs)
joined_distinct bs cs d e = append_distinct bs (missing_entries bs cs) d (missing_distinct bs cs e) (missing_new bs cs)

-- ---- a base that begins with the other
missing_known : (known es rest : List BaseEntry) → AreAmong es known → missing_entries known (es ++ rest) ≡ missing_entries known rest
missing_known known [] rest a = refl
missing_known known (e ∷ es) rest a = ap (λ b. cond b (missing_entries known (es ++ rest)) (e ∷ missing_entries known (es ++ rest))) a.0 ∙ missing_known known es rest a.1

missing_all : (known es : List BaseEntry) → AreNew known es → missing_entries known es ≡ es
missing_all known [] n = refl
missing_all known (e ∷ es) n = ap (λ b. cond b (missing_entries known es) (e ∷ missing_entries known es)) n.0 ∙ ap (λ r. e ∷ r) (missing_all known es n.1)

other_behind : (x : BaseEntry) (xs ys : List BaseEntry) → AreOther x (xs ++ ys) → AreOther x ys
other_behind x [] ys o = o
other_behind x (f ∷ xs) ys o = other_behind x xs ys o.1

new_none : (es : List BaseEntry) → AreNew [] es
new_none [] = tt
new_none (e ∷ es) = (refl, new_none es)

new_more : (x : BaseEntry) (xs ys : List BaseEntry) → AreOther x ys → AreNew xs ys → AreNew (x ∷ xs) ys
new_more x xs [] o n = tt
new_more x xs (y ∷ ys) o n = (or_both (same_entry x y) (has_entry xs y) o.0 n.0, new_more x xs ys o.1 n.1)

behind_new : (bs rest : List BaseEntry) → AreDistinct (bs ++ rest) → AreNew bs rest
behind_new [] rest d = new_none rest
behind_new (b ∷ bs) rest d = new_more b bs rest (other_behind b bs rest d.0) (behind_new bs rest d.1)

-- the join with a base that begins with the first one is that base
pub prefix_joined : (bs cs : List BaseEntry) → IsPrefix bs cs → AreDistinct cs → joined_bases bs cs ≡ cs
prefix_joined bs cs p d =
    ap (joined_bases bs) p.1
    ∙ ap (λ r. bs ++ r) (missing_known bs bs p.0 (among_itself bs) ∙ missing_all bs p.0 (behind_new bs p.0 (subst AreDistinct p.1 d)))
    ∙ sym p.1

-- ---- the base of a cited theorem
axioms_other : (a : NamedProp) (es : List BaseEntry) → AreOther (Axiom a) es → AreOther (Axiom a) (map Axiom (axioms_of es))
axioms_other a [] o = tt
axioms_other a (Axiom b ∷ es) o = (o.0, axioms_other a es o.1)
axioms_other a (Cite n p axioms ∷ es) o = axioms_other a es o.1

axioms_distinct : (es : List BaseEntry) → AreDistinct es → AreDistinct (map Axiom (axioms_of es))
axioms_distinct [] d = tt
axioms_distinct (Axiom a ∷ es) d = (axioms_other a es d.0, axioms_distinct es d.1)
axioms_distinct (Cite n p axioms ∷ es) d = axioms_distinct es d.1

pub cited_distinct : (es : List BaseEntry) (axioms : List NamedProp) → axioms ≡ axioms_of es → AreDistinct es → AreDistinct (map Axiom axioms)
cited_distinct es axioms e d = subst (λ r. AreDistinct (map Axiom r)) (sym e) (axioms_distinct es d)

pub cite_new : (axioms : List NamedProp) (n : ℕ) (p : Tm) (cs : List NamedProp) → has_entry (map Axiom axioms) (Cite n p cs) ≡ false
cite_new [] n p cs = refl
cite_new (a ∷ axioms) n p cs = cite_new axioms n p cs

other_front : (x : BaseEntry) (xs ys : List BaseEntry) → AreOther x (xs ++ ys) → AreOther x xs
other_front x [] ys o = tt
other_front x (f ∷ xs) ys o = (o.0, other_front x xs ys o.1)

pub distinct_front : (xs ys : List BaseEntry) → AreDistinct (xs ++ ys) → AreDistinct xs
distinct_front [] ys d = tt
distinct_front (x ∷ xs) ys d = (other_front x xs ys d.0, distinct_front xs ys d.1)

-- ---- what a loop puts last
-- the next of the missing ones is none of those before it
pub missing_next : (known entries xs rest ys : List BaseEntry) (e : BaseEntry) → AreDistinct (missing_entries known entries) → xs ++ missing_entries known rest ≡ missing_entries known entries → rest ≡ e ∷ ys → has_entry known e ≡ false → has_entry xs e ≡ false
missing_next known entries xs rest ys e d s r h =
    let next : missing_entries known rest ≡ e ∷ missing_entries known ys = ap (missing_entries known) r ∙ ap (λ b. cond b (missing_entries known ys) (e ∷ missing_entries known ys)) h in
    distinct_new xs (missing_entries known ys) e (subst AreDistinct (sym s ∙ ap (λ zs. xs ++ zs) next) d)

pub append_next : (whole xs rest ys : List BaseEntry) (e : BaseEntry) → AreDistinct whole → xs ++ rest ≡ whole → rest ≡ e ∷ ys → has_entry xs e ≡ false
append_next whole xs rest ys e d s r = distinct_new xs ys e (subst AreDistinct (sym s ∙ ap (λ zs. xs ++ zs) r) d)

pub cite_next : (axioms rest ys : List NamedProp) (xs : List BaseEntry) (a : NamedProp) → AreDistinct (map Axiom axioms) → xs ++ map Axiom rest ≡ map Axiom axioms → rest ≡ a ∷ ys → has_entry xs (Axiom a) ≡ false
cite_next axioms rest ys xs a d s r = append_next (map Axiom axioms) xs (map Axiom rest) (map Axiom ys) (Axiom a) d s (ap (map Axiom) r)

pub cite_last : (axioms left : List NamedProp) (xs : List BaseEntry) (n : ℕ) (p : Tm) (cs : List NamedProp) → left ≡ [] → xs ++ map Axiom left ≡ map Axiom axioms → has_entry xs (Cite n p cs) ≡ false
cite_last axioms left xs n p cs e s =
    let whole : xs ≡ map Axiom axioms = sym (append-nil xs) ∙ ap (λ l. xs ++ map Axiom l) (sym e) ∙ s in
    ap (λ r. has_entry r (Cite n p cs)) whole ∙ cite_new axioms n p cs

-- one that is missing was put last, and one that is known was passed over
pub missing_put : (known entries xs rest ys new : List BaseEntry) (e f : BaseEntry) → xs ++ missing_entries known rest ≡ missing_entries known entries → rest ≡ e ∷ ys → has_entry known e ≡ false → f ≡ e → new ≡ xs ++ f ∷ [] → new ++ missing_entries known ys ≡ missing_entries known entries
missing_put known entries xs rest ys new e f s r h same put =
    let next : missing_entries known rest ≡ e ∷ missing_entries known ys = ap (missing_entries known) r ∙ ap (λ b. cond b (missing_entries known ys) (e ∷ missing_entries known ys)) h in
    ap (λ zs. zs ++ missing_entries known ys) (put ∙ ap (λ x. xs ++ x ∷ []) same) ∙ append_assoc xs (e ∷ []) (missing_entries known ys) ∙ ap (λ zs. xs ++ zs) (sym next) ∙ s

pub missing_passed : (known entries xs rest ys new : List BaseEntry) (e : BaseEntry) → xs ++ missing_entries known rest ≡ missing_entries known entries → rest ≡ e ∷ ys → has_entry known e ≡ true → new ≡ xs → new ++ missing_entries known ys ≡ missing_entries known entries
missing_passed known entries xs rest ys new e s r h same =
    let next : missing_entries known rest ≡ missing_entries known ys = ap (missing_entries known) r ∙ ap (λ b. cond b (missing_entries known ys) (e ∷ missing_entries known ys)) h in
    ap (λ zs. zs ++ missing_entries known ys) same ∙ ap (λ zs. xs ++ zs) (sym next) ∙ s
