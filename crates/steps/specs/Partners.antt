-- What a step does for aj(b), by the tables alone: the code's answer in the rules' words.
use Rattle.std.specs.Prelude.{ℕ, ◌-◌, List, []}
use Rattle.rules.specs.declared.Form.TheVariants.{One}
use Rattle.rules.specs.Map.{Layout, by_dart}
use Rattle.rules.specs.Walk.{Walk}
use Rattle.rules.specs.Walk as walk
use Rattle.steps.specs.declared.Case.{Case}
use Rattle.steps.specs.declared.Case.TheVariants.{Known, Deduced, Asked}

-- a walk of which only the tables are asked
abbrev pub looking : Layout → ℕ → ℕ → List ℕ → Walk
looking Y N n t = record { layout = Y; dim = N; darts = n; queues = []; links = t; count = 0; positions = []; form = One; bodies = 0 }

-- what is to be done for aj(b) where it is not known
abbrev pub deduced_for : ℕ → ℕ → List ℕ → ℕ → ℕ → walk.Partner
deduced_for N n t j b = walk.deduce (looking by_dart N n t) j b (j - 1) 0

-- what is to be done for aj(b)
abbrev pub partner_for : ℕ → ℕ → List ℕ → ℕ → ℕ → walk.Partner
partner_for N n t j b = walk.partner (looking by_dart N n t) j b

-- the code's answer in the rules' words
abbrev pub told_partner : Case → walk.Partner
told_partner Known = walk.Partner.known
told_partner (Deduced e) = walk.Partner.deduced e.0
told_partner Asked = walk.Partner.asked
