use Rattle.loads.proofs.Topping.{topped_zeros}
use Rattle.loads.proofs.steps.tops.Tops.new.Goals as goal

pub returns : goal.returns
returns c = λ i h. topped_zeros 256 i
