-- What inference answers, as a command's refusal says it.
use Rattle.std.specs.Prelude.{◌≡◌, ◌≢◌, Result, Ok, Err}
use Rattle.isa_terms.specs.Terms.{Tm}
use Rattle.isa_raw.specs.RawTerms.{Raw}
use Rattle.isa_typing.specs.Scopes.{Declared}
use Rattle.isa_typing.specs.Principal.{IsPrincipal, HasNoTyping}
use Rattle.isa_outer.specs.declared.refusal.Kind.{Kind}
use Rattle.isa_outer.specs.declared.refusal.Kind.TheVariants as kind

-- the principal term; or no typing and the refusal of its types, want of memory aside
abbrev pub IsInferred : Declared → Raw → Result Tm Kind → Type 0
IsInferred declared u (Ok t) = IsPrincipal declared u t
IsInferred declared u (Err k) = k ≢ kind.Memory → (k ≡ kind.Types) × HasNoTyping declared u
