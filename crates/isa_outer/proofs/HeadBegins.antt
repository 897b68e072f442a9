-- A modifier begins where its word does.
use Rattle.std.proofs.Common.{◌≡◌, ℕ, Bool, true, false, ◌||◌, ◌&&◌, List, refl, ap, ◌∙◌}
use Rattle.isa_outer.specs.declared.facts.Heads.{Heads}
use Rattle.isa_outer.specs.declared.facts.Heads.TheVariants.{Simp, Claset, Auto}
use Rattle.isa_outer.specs.Private.Heads.{head_of}
use Rattle.isa_outer.specs.Grammar.{claset_method, simp_head, modifier, facts, stands}
use Rattle.isa_tokens.specs.declared.token.Token.{Token}
use Rattle.isa_outer.specs.Forms.{begins, is_optional}
use Rattle.isa_outer.specs.Grammar.{claset_word, claset_head, auto_word, auto_head, colon, colons, constant, unless, command_stands, name, typ, notation, ◌▸◌, ◌&◌}
use Rattle.isa_outer.specs.Forms.{maybe}

or-none : (a b : Bool) → (a || (false && b)) ≡ a
or-none true b = refl
or-none false b = refl

claset_needed : is_optional claset_word ≡ false
unfolding claset_word
claset_needed = refl

auto_needed : is_optional auto_word ≡ false
unfolding auto_word claset_word
auto_needed = refl

pub claset_begins : (ts : List Token) → begins claset_head ts ≡ begins claset_word ts
unfolding claset_head
claset_begins ts = ap (λ o. begins claset_word ts || (o && begins colon ts)) claset_needed ∙ or-none (begins claset_word ts) (begins colon ts)

pub auto_begins : (ts : List Token) → begins auto_head ts ≡ begins auto_word ts
unfolding auto_head
auto_begins ts = ap (λ o. begins auto_word ts || (o && begins colon ts)) auto_needed ∙ or-none (begins auto_word ts) (begins colon ts)

simp_needed : is_optional simp_head ≡ false
unfolding simp_head
simp_needed = refl

claset_head_needed : is_optional claset_head ≡ false
unfolding claset_head claset_word
claset_head_needed = refl

auto_head_needed : is_optional auto_head ≡ false
unfolding auto_head auto_word claset_word
auto_head_needed = refl

pub needed : (h : Heads) → is_optional (head_of h) ≡ false
needed Simp = simp_needed
needed Claset = claset_head_needed
needed Auto = auto_head_needed

pub modifier_begins : (h : Heads) (stops : List Token → Bool) (ts : List Token) → begins (modifier (head_of h) stops) ts ≡ begins (head_of h) ts
unfolding modifier
modifier_begins h stops ts =
    let rest : Bool = begins (facts (λ us. stops us || stands (head_of h) us)) ts in
    ap (λ o. begins (head_of h) ts || (o && rest)) (needed h) ∙ or-none (begins (head_of h) ts) rest

pub constant_begins : (line : ℕ) (ts : List Token) → begins (constant line (unless command_stands name)) ts ≡ begins (unless command_stands name) ts
unfolding constant
constant_begins line ts = or-none (begins (unless command_stands name) ts) (begins (colons ▸ typ line & maybe notation) ts)

pub claset_method_needed : is_optional claset_method ≡ false
unfolding claset_method
claset_method_needed = refl
