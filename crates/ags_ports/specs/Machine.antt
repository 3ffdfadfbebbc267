-- A machine is its tables: the orders' codes and times, and the registers.
use Rattle.ags_isa.specs.Code.{AreCodes, standard_codes}
use Rattle.ags_ports.specs.declared.machines.Machine.{Machine}
use Rattle.ags_ports.specs.Time.{AreTimes, standard_times}
use Rattle.ags_ports.specs.Port.{AreRegisters, standard_inputs, standard_outputs}

-- the codes, times and registers are valid tables; each machine that a program has is one of these
pub record IsMachine (machine : Machine) : Type 0 where
  pub codes : AreCodes machine.codes
  pub times : AreTimes machine.times
  pub inputs : AreRegisters machine.ports.inputs
  pub outputs : AreRegisters machine.ports.outputs

-- the standard machine: the panel is connected to the input register at 2200 octal and to the output register at 6200
abbrev pub standard_machine : Machine
standard_machine = record {
  codes = standard_codes;
  times = standard_times;
  ports = record { inputs = standard_inputs; outputs = standard_outputs };
  deda_in = 0o2200;
  deda_out = 0o6200;
}
