-- The lines of errors of packing.
use Rattle.std.specs.Prelude.{◌++◌, ℕ, List, codes}
use Rattle.schedule.specs.Text.{day_text}
use Rattle.deposit_name.specs.Tables.{table_name_text}
use Rattle.deposit_name.specs.declared.kinds.Kind.{Kind}
use Rattle.deposit_name.specs.declared.kinds.Kind.TheVariants.{Full, Diff, Incr}
use Rattle.deposit_verify.specs.ReasonText.{file_place_text, menu_reason_text, missing_key_text, table_fault_text}
use Rattle.deposit_pack.specs.declared.pack_error.PackError.{PackError}
use Rattle.deposit_pack.specs.declared.pack_error.PackError.TheVariants.{Sunday, PrevId, Deletes, Header, Table, Menu, Reference, NoBase, Count, Length, Memory}

abbrev pub wanted_prev_id_text : Kind → List ℕ
wanted_prev_id_text Full = codes "a full deposit follows none"
wanted_prev_id_text Diff = codes "a differential deposit follows the latest that passed"
wanted_prev_id_text Incr = codes "an incremental deposit follows the latest full one that passed"

abbrev pub may_delete_text : Kind → List ℕ
may_delete_text Full = codes "a full deposit deletes nothing"
may_delete_text Diff = codes "only domains, hosts, contacts and registrars are deleted"
may_delete_text Incr = codes "only domains, hosts, contacts and registrars are deleted"

abbrev pub pack_error_text : PackError → List ℕ
pack_error_text (Sunday day) = codes "U1 " ++ (day_text day ++ codes " is a Sunday, and the deposit is not full")
pack_error_text (PrevId kind) = codes "U2 " ++ wanted_prev_id_text kind
pack_error_text (Deletes kind table) = codes "U3 deletes/" ++ (table_name_text table ++ (codes ".csv: " ++ may_delete_text kind))
pack_error_text (Header file) = codes "U4 " ++ (file_place_text file ++ codes ".csv: the first row is not the names of its columns")
pack_error_text (Table fault) = codes "U5 " ++ (file_place_text fault.file ++ (codes ".csv" ++ table_fault_text fault.file fault.fault))
pack_error_text (Menu reason) = codes "U6 " ++ menu_reason_text reason
pack_error_text (Reference missing) = codes "U7 " ++ (table_name_text missing.table ++ (codes ".csv" ++ missing_key_text missing))
pack_error_text NoBase = codes "U8 the deposits that it follows are wanted"
pack_error_text (Count table) = codes "U9 " ++ (table_name_text table ++ codes ".csv: more than a count holds")
pack_error_text Length = codes "U10 more bytes than eight parts of 1048576 hold"
pack_error_text Memory = codes "U11 out of memory"
