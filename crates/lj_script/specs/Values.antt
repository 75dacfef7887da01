-- Scripts and sections as contracts see them, and what their types say of them.
use Rattle.std.specs.Prelude.{ℕ, ◌≤◌, List, length}
use Rattle.std.specs.List.{AllByRecursion}
use Rattle.lj_base.specs.Frames.{Top}
use Rattle.lj_script.specs.declared.limits.TheConstants.{MAX_COMMANDS}
use Rattle.lj_script.specs.declared.scripts.Command.{Command}
use Rattle.lj_script.specs.declared.scripts.Command.TheVariants.{Upload, Bound, Plan, Expand}

-- a client's name and commands
pub record SectionValue : Type 0 where
  pub name : List ℕ
  pub commands : List Command

pub record ScriptValue : Type 0 where
  pub frame : Top
  pub clients : List SectionValue

-- the cell that the command names, if any, has k of 1 or more
abbrev pub NamesSome : Command → Type 0
NamesSome (Upload c body) = 1 ≤ c.k
NamesSome (Bound c) = 1 ≤ c.k
NamesSome (Plan c) = 1 ≤ c.k
NamesSome (Expand c) = 1 ≤ c.k
NamesSome command = Unit {0}

-- the commands of a section: within the limit, and each cell that they name has k of 1 or more
pub record AreOfSection (commands : List Command) : Type 0 where
  pub few : length commands ≤ MAX_COMMANDS
  pub cells : AllByRecursion NamesSome commands
