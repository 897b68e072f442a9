-- A list of tokens has one reading.
use Rattle.std.proofs.Common.{◌≡◌, ℕ, Bool, true, false, List, [], ◌∷◌, refl, sym, ap, subst, ◌∙◌}
use Rattle.std.specs.Prelude.{Option, Some, None}
use Rattle.isa_tokens.specs.declared.token.Token.{Token}
use Rattle.isa_outer.specs.declared.refusal.Refused.{Refused}
use Rattle.isa_outer.specs.declared.command.Command.{Command}
use Rattle.isa_outer.specs.Forms.{read, Reading, Got, Refuses}
use Rattle.isa_outer.specs.Grammar.{command}
use Rattle.isa_outer.specs.Texts.{Reads, ends, next, refuses, is_end, first_line, line_at}

-- what a reading says, by whether the end stands here and by what is read
abbrev Inverted : Option ℕ → List Token → List Command → Option Refused → Bool → Reading Command → Type 0
Inverted last ts cs e true r = (cs ≡ []) × (e ≡ None)
Inverted last ts cs e false (Got c rest) = (more : List Command) × (cs ≡ c ∷ more) × Reads (Some (first_line ts)) rest more e
Inverted last ts cs e false (Refuses cause) = (cs ≡ []) × (e ≡ Some (record { line = line_at last ts; kind = cause }))

invert : (last : Option ℕ) (ts : List Token) (cs : List Command) (e : Option Refused) → Reads last ts cs e → Inverted last ts cs e (is_end ts) (read (command (first_line ts)) ts)
invert _ _ _ _ (ends last ts p) = subst (λ (b : Bool). Inverted last ts [] None b (read (command (first_line ts)) ts)) (sym p) (refl, refl)
invert _ _ _ _ (next last ts rest c cs e p q r) =
    let here : List Command = c ∷ cs in
    subst (λ (b : Bool). Inverted last ts here e b (read (command (first_line ts)) ts)) (sym p) (subst (λ (x : Reading Command). Inverted last ts here e false x) (sym q) (cs, refl, r))
invert _ _ _ _ (refuses last ts cause p q) =
    let it : Option Refused = Some (record { line = line_at last ts; kind = cause }) in
    subst (λ (b : Bool). Inverted last ts [] it b (read (command (first_line ts)) ts)) (sym p) (subst (λ (x : Reading Command). Inverted last ts [] it false x) (sym q) (refl, refl))

pub one_reading : (last : Option ℕ) (ts : List Token) (cs : List Command) (e : Option Refused) → Reads last ts cs e →
    (ds : List Command) (f : Option Refused) → Reads last ts ds f → (cs ≡ ds) × (e ≡ f)
one_reading _ _ _ _ (ends last ts p) ds f s =
    let i : Inverted last ts ds f true (read (command (first_line ts)) ts) = subst (λ (b : Bool). Inverted last ts ds f b (read (command (first_line ts)) ts)) p (invert last ts ds f s) in
    (sym i.0, sym i.1)
one_reading _ _ _ _ (next last ts rest c cs e p q r) ds f s =
    let i : Inverted last ts ds f false (Got c rest) =
    subst (λ (x : Reading Command). Inverted last ts ds f false x) q (subst (λ (b : Bool). Inverted last ts ds f b (read (command (first_line ts)) ts)) p (invert last ts ds f s)) in
    let same = one_reading (Some (first_line ts)) rest cs e r i.0 f i.2 in
    (ap (λ (l : List Command). c ∷ l) same.0 ∙ sym i.1, same.1)
one_reading _ _ _ _ (refuses last ts cause p q) ds f s =
    let i : Inverted last ts ds f false (Refuses cause) =
    subst (λ (x : Reading Command). Inverted last ts ds f false x) q (subst (λ (b : Bool). Inverted last ts ds f b (read (command (first_line ts)) ts)) p (invert last ts ds f s)) in
    (sym i.0, sym i.1)
