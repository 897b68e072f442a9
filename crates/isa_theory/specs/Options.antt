-- The options, their defaults and their ranges.
-- Source: Isabelle's options in a theory (the Isabelle/Isar Reference Manual, `declare [[..]]`); the ranges and the defaults are this project's own.
use Rattle.std.specs.Prelude.{Bool, false, ◌&&◌, nat_le, Result, Ok, Err, if◌then◌else◌}
use Rattle.isa_outer.specs.declared.refusal.Kind.{Kind}
use Rattle.isa_outer.specs.declared.refusal.Kind.TheVariants as kind
use Rattle.isa_outer.specs.declared.command.Setting.{Setting}
use Rattle.isa_outer.specs.declared.command.Setting.TheVariants as setting
use Rattle.isa_theory.specs.declared.options.Options.{Options}

abbrev pub default_options : Options
default_options = record { simp_depth_limit = 40; blast_depth_limit = 20; step_budget = 200000; show_types = false }

-- the options, if the number is in its range
abbrev pub in_range : Bool → Options → Result Options Kind
in_range allowed o = if allowed then Ok o else Err kind.Number

unfoldable pub with_setting : Options → Setting → Result Options Kind
with_setting o (setting.SimpDepthLimit n) = in_range (nat_le n 200) (record o { simp_depth_limit = n })
with_setting o (setting.BlastDepthLimit n) = in_range (nat_le n 100) (record o { blast_depth_limit = n })
with_setting o (setting.StepBudget n) = in_range (nat_le 1 n && nat_le n 2000000) (record o { step_budget = n })
with_setting o (setting.ShowTypes b) = Ok (record o { show_types = b })
