-- An instance of least price that was found at a cell.
use Rattle.std.specs.Prelude.{ℕ, Option, Some, None}
use Rattle.lj_base.specs.Frames.{Top}
use Rattle.lj_induced.specs.Rows.{IsInducedChoice}
use Rattle.lj_product.specs.Products.{IsProductChoice}
use Rattle.lj_relax.specs.Steps.{IsLeastPrice, Snapshot}
use Rattle.lj_relax.specs.Tickets.{TicketLists, snapshot_of}
use Rattle.lj_relax.specs.declared.found.Found.{Found}
use Rattle.lj_relax.specs.declared.found.Found.TheVariants.{Elementary, Product, Induced, Nothing}
use Rattle.lj_rules.specs.Elementary.{IsElementaryChoice}

-- the price, where there is an instance
abbrev pub found_cost : Found → Option ℕ
found_cost (Elementary choice) = Some choice.cost
found_cost (Product choice) = Some choice.cost
found_cost (Induced choice) = Some choice.cost
found_cost Nothing = None

-- what was found is an instance at the snapshot's cell, or a row of it, at its price
abbrev pub IsFound : Top → Snapshot → Found → Type 0
IsFound frame a (Elementary choice) = IsElementaryChoice frame a.bounds a.cell choice
IsFound frame a (Product choice) = IsProductChoice frame a.bounds a.cell choice
IsFound frame a (Induced choice) = IsInducedChoice a.bounds a.cell a.rows choice
IsFound frame a Nothing = Unit {0}

-- and no instance and no row has a lower price; nothing is found where there is none
pub record IsLeastFound (frame : Top) (a : Snapshot) (found : Found) : Type 0 where
  pub instance : IsFound frame a found
  pub price : IsLeastPrice frame a (found_cost found)

-- a proposal as contracts see it
pub record Evaluation : Type 0 where
  pub ticket : TicketLists
  pub found : Found

abbrev pub IsEvaluation : Evaluation → Type 0
IsEvaluation e = IsLeastFound e.ticket.frame (snapshot_of e.ticket) e.found
