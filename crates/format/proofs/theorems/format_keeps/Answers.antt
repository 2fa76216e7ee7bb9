-- The theorems on numbers, images read back and images written back.
use Rattle.format.proofs.BigEndian.{value_bytes, bytes_value}
use Rattle.format.proofs.RoundTrip.{reads_back, writes_back}
use Rattle.format.proofs.theorems.format_keeps.Goals as goal

pub returns : goal.returns
returns c = record { numbers = (value_bytes, bytes_value); back = reads_back; forth = writes_back }
