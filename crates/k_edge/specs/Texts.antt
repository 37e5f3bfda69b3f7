-- For contracts between crates: nobody has to believe it.
-- What the faults of the outside print.
use Rattle.std.specs.Prelude.{ℕ, List, codes}
use Rattle.k_edge.specs.declared.files.LoadFault.{LoadFault}
use Rattle.k_edge.specs.declared.files.LoadFault.TheVariants as load
use Rattle.k_edge.specs.declared.files.SaveFault.{SaveFault}
use Rattle.k_edge.specs.declared.files.SaveFault.TheVariants as save
use Rattle.k_edge.specs.declared.reading.ReadAllFault.{ReadAllFault}
use Rattle.k_edge.specs.declared.reading.ReadAllFault.TheVariants as all
use Rattle.k_edge.specs.declared.sink.PutFault.{PutFault}
use Rattle.k_edge.specs.declared.sink.PutFault.TheVariants as put

-- what a refused load prints
abbrev pub load_fault_text : LoadFault → List ℕ
load_fault_text load.Absent = codes "no such file"
load_fault_text load.TooLong = codes "the file is too long"
load_fault_text load.Failed = codes "the load failed"
load_fault_text load.Memory = codes "no memory"

-- what a refused save prints
abbrev pub save_fault_text : SaveFault → List ℕ
save_fault_text save.Failed = codes "the save failed"
save_fault_text save.Memory = codes "no memory"

-- what a refused put prints
abbrev pub put_fault_text : PutFault → List ℕ
put_fault_text put.Failed = codes "the write failed"
put_fault_text put.Memory = codes "no memory"

-- what a reading that stopped before the end prints
abbrev pub read_all_fault_text : ReadAllFault → List ℕ
read_all_fault_text all.ReadFault = codes "the read failed"
read_all_fault_text all.TooLong = codes "the input is too long"
read_all_fault_text all.Memory = codes "no memory"
